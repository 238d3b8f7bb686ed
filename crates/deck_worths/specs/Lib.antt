pub mod Worths
pub mod Working
