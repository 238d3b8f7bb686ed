pub mod Paths
pub mod Naming
mod Marking
pub mod Spreading
pub mod Firsts
mod Depths
mod Turning
mod Living
