pub mod Canonical
pub mod Disjoint
pub mod Working
