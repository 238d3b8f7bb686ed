mod Values
mod Layers
mod Statements
mod DigitSteps
mod Numbers
mod Choices
pub mod FirstForms
