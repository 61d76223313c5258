pub mod Count
pub mod Inverse
pub mod Table
