pub mod Tapes
pub mod Replays
