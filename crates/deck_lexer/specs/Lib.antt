pub mod Bytes
pub mod Sizes
pub mod Tokens
pub mod Working
