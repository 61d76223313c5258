pub mod Bounded
pub mod Decoding
pub mod Encoding
pub mod Reg
