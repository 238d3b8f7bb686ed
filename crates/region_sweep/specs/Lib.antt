pub mod Counts
pub mod Working
