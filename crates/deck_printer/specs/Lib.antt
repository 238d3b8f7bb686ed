pub mod Values
pub mod Layers
pub mod Canonical
