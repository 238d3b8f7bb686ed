pub mod Rows
pub mod Working
