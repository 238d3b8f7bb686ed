pub mod Outcomes
pub mod Turns
pub mod Working
