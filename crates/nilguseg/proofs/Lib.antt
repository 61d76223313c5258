pub mod CoreWords
pub mod Refusal
