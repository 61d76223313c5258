pub mod Words
pub mod Replay
