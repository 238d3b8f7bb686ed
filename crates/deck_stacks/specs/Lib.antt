pub mod Stacks
pub mod Parts
pub mod Stacked
pub mod Working
