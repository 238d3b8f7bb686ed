pub mod Reruns
pub mod Headers
pub mod Endings
