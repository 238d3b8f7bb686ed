pub mod Ledgers
pub mod Marks
pub mod Flags
pub mod Ends
pub mod Tables
pub mod Working
