pub mod Fractions
pub mod Working
