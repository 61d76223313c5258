pub mod Decimal
pub mod Line
