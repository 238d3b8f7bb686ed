pub mod FirstFacts
pub mod Working
