pub mod InputLaws
pub mod SheetLaws
pub mod WriteLaws
pub mod Examples
