pub mod Steps
pub mod Windings
