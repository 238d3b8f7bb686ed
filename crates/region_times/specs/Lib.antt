pub mod Made
pub mod Reach
