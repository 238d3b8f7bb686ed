mod Corners
pub mod Different
