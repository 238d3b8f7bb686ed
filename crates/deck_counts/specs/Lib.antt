pub mod Operations
pub mod Outputs
pub mod Excess
