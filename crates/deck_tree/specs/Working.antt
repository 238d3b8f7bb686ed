-- Working words, which no contract that is exported cites.
pub mod Answers
