pub mod EitherOr
pub mod Tests
pub mod Members
pub mod Slots
pub mod Texts
pub mod InOrder
pub mod Attempts
pub mod Positions
