pub mod Histories
pub mod Enabled
pub mod Totals
pub mod Readers
pub mod Steps
pub mod Lists
