pub mod Jobs
pub mod Tokens
pub mod Machines
pub mod Answers
pub mod States
pub mod Endings
pub mod Working
