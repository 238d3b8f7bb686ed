pub mod Sizes
pub mod Working
