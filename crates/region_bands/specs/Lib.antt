pub mod Bands
pub mod Working
