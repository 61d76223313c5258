pub mod Replay
pub mod Places
