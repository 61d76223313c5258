pub mod Agreement
pub mod Claims
pub mod Editions
pub mod Ends
pub mod Logs
pub mod Rights
pub mod Rows
