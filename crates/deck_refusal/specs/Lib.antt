pub mod Refused
pub mod Working
