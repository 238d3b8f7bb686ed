pub mod Selection
pub mod CheckNames
pub mod Working
