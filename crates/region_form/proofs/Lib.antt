pub mod Parity
pub mod FlipOrder
pub mod FlipLines
pub mod FlipRows
pub mod LineFlips
mod Changes
mod Steps
mod SameSquares
