pub mod Stretches
pub mod Chunks
pub mod Working
