-- Working words, of private functions: no clause of a public function cites them.
pub mod Values
pub mod Layers
pub mod Parts
pub mod Views
