pub mod Outlines
pub mod Working
