pub mod Host
pub mod Refusal
