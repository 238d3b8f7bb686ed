mod Cuts
mod Examples
pub mod Fronts
mod Starts
mod Readings
mod Unique
mod Tables
mod Refused
mod Worked
pub mod OnceFacts
mod WorkedFronts
pub mod Numbering
