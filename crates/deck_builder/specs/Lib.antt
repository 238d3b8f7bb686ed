pub mod Reading
pub mod Inputs
pub mod Choices
pub mod Nests
pub mod Signs
pub mod Relations
