pub mod Links
pub mod Working
