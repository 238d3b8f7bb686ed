pub mod Replays
pub mod Refused
pub mod Working
