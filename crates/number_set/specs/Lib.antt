pub mod Members
pub mod Trees
