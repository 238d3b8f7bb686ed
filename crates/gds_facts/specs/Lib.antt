pub mod Opened
pub mod Facts
