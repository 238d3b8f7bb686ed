mod Within
pub mod Rounds
mod Lists
