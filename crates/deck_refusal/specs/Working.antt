-- Working words: how far a walk over tokens has come, and what stands at their end. No public clause cites them.
pub mod Walking
pub mod Recent
pub mod Ends
pub mod SetAside
