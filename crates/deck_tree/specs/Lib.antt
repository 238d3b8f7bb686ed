pub mod DeckKinds
pub mod KnownNames
pub mod Names
pub mod Plain
pub mod WellFormed
pub mod Words
pub mod Working
pub mod Worths
