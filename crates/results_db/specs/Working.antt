-- Working words, of loops and private functions: no clause of a public function cites them.
pub mod Steps
