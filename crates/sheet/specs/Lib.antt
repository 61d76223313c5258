pub mod Refusal
pub mod Record
pub mod Load
pub mod Write
pub mod Input
