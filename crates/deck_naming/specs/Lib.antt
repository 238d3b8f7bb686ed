pub mod Undefined
