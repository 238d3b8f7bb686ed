mod Sorting
mod RunLists
pub mod Bounds
