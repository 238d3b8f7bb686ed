-- Working words: of the evaluator of the booleans, and of the walk over the flips of two regions. No clause of a public
-- function reaches them.
pub mod Tables
pub mod Meetings
