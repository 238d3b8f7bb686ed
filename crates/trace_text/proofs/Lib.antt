pub mod LineLists
pub mod Texts
mod Filled
mod Steps
mod Stuck
pub mod FrontLaws
mod PrintLaws
mod Reaching
