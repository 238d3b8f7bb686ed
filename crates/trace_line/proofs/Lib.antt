mod Digits
mod Numbers
mod Words
pub mod LineLaws
