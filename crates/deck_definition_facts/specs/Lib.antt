pub mod DefinitionFacts
pub mod Working
