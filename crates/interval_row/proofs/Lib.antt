pub mod Places
pub mod Splits
pub mod SamePlaces
mod Ends
mod Drawing
mod Walks
mod Skipping
mod Alone
