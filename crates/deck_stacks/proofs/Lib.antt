mod Members
mod Listing
mod Derived
mod Fitting
mod Emptying
pub mod Following
mod Tops
mod Ways
mod Ends
