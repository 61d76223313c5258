pub mod Compared
pub mod Claims
