pub mod Exits
pub mod Ways
