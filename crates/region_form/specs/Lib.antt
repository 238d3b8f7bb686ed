pub mod Flips
pub mod Climbs
pub mod LineFlips
pub mod Working
