pub mod RunUnits
pub mod MaximalRuns
pub mod Boundaries
pub mod Lengths
pub mod Turning
pub mod Covered
