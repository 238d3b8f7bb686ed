-- Working words, of loops and private functions: no clause of a public function cites them.
pub mod LayoutReading
pub mod ShortRuns
pub mod TextView
pub mod CommandView
pub mod Read
pub mod Tries
pub mod Whole
pub mod Endings
pub mod Decide
pub mod CommandEnds
