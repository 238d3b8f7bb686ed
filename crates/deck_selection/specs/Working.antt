-- Working words: of the steps of this crate alone. No clause of a public function reaches them.
pub mod NameSets
