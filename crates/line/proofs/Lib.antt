pub mod DecimalLaws
pub mod LineLaws
pub mod Examples
