pub mod Growing
mod Shrinking
