pub mod DrawnNumbers
pub mod Limits
pub mod Wirings
pub mod Working
