pub mod Slots
mod Linking
mod Marking
mod Opening
pub mod Costs
pub mod Totals
pub mod Holding
mod Standing
pub mod Telling
