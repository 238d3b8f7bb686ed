-- Working words: of the parts of a table. No clause of an exported function or type reaches them.
pub mod Places
pub mod Pasts
pub mod Openings
pub mod Costs
