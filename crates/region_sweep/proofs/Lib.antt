pub mod Remainders
mod EndFlips
mod Turned
mod CountedFlips
mod Swept
pub mod Reordered
