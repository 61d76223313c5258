pub mod Log
pub mod Memory
pub mod Outcome
pub mod Parts
pub mod Rights
pub mod Store
