pub mod Laws
pub mod Places
pub mod Stores
pub mod Marks
pub mod Logs
