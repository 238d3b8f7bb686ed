-- Working words: of the loops of this crate alone. No clause of a public function reaches them.
pub mod SoFar
