pub mod Graphs
mod Places
mod Repeating
pub mod Leading
