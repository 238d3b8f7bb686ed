pub mod Fronts
pub mod Exits
mod Table
mod Chosen
pub mod Slots
mod Ends
