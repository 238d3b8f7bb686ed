pub mod LengthLimits
pub mod Working
