pub mod Opcode
