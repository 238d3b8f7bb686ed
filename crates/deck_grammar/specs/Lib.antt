pub mod Lexemes
pub mod Words
pub mod Rules
pub mod Alternatives
pub mod Spelling
pub mod Refusals
pub mod Working
