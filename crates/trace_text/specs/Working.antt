pub mod Places
pub mod Charges
