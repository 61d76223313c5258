pub mod Tests
pub mod Refused
