pub mod Squares
pub mod Units
pub mod Runs
pub mod Lengths
pub mod RunOrder
pub mod Turns
pub mod Winding
