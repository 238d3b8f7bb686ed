pub mod Places
pub mod Inside
pub mod Decks
pub mod Steps
