-- Working words: the table of alternatives as lists, the stacks that a token leads to, and what the private functions
-- answer. No public clause cites them.
pub mod Tables
pub mod Deriving
pub mod Opening
