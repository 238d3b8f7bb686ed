pub mod Entries
pub mod Pieces
pub mod Numbers
pub mod Working
