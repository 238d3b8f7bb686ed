-- Working words: of the loop of this crate alone. No clause of a public function reaches them.
pub mod Flags
