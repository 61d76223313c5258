pub mod Calls
pub mod Sheets
pub mod Line
pub mod Refused
