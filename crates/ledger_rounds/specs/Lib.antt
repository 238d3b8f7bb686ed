pub mod Chains
pub mod Costs
pub mod Pairs
