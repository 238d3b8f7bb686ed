pub mod Edges
pub mod Working
