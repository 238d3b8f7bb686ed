-- Working words: of the private functions. No clause of an exported function or type reaches them.
pub mod Alone
