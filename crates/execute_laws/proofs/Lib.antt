pub mod Editions
pub mod Words
