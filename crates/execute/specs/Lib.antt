pub mod Edition
pub mod Execute
pub mod Flags
pub mod Registers
pub mod Word
