pub mod Traces
pub mod Fronts
pub mod Places
pub mod FrontOf
pub mod Refusals
pub mod Faults
pub mod Printed
pub mod Working
