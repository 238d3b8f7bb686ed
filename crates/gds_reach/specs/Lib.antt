pub mod References
pub mod Facts
pub mod Live
pub mod Working
