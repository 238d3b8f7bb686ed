pub mod RecordTypes
pub mod Records
pub mod LayoutKinds
pub mod Stream
pub mod Library
pub mod Reals
pub mod Working
