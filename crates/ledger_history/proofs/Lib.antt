pub mod Choices
pub mod Orders
pub mod Releases
pub mod Holders
pub mod Sums
pub mod Returns
pub mod Lives
pub mod Ends
pub mod Charges
mod Budgets
pub mod Goings
pub mod Counts
