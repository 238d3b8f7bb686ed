-- Working words: of the loops and of the steps of this crate alone. No clause of a public function reaches them.
pub mod Circles
