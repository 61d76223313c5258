pub mod Laws
pub mod Cycles
pub mod Runs
pub mod Keeps
pub mod Sizes
pub mod Whole
