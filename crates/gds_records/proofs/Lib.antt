pub mod Fronts
pub mod Cutting
mod Taking
mod Powers
mod RealSigns
mod RealSizes
