pub mod EitherOr
pub mod Between
pub mod InOrder
pub mod Attempts
