pub mod Steps
pub mod Grammar
pub mod Slots
pub mod Working
