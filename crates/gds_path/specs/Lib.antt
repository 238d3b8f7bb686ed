pub mod Paths
pub mod Working
