-- Working words: of reading a deck from left to right, and of kinds as numbers. No clause of a public function reaches them.
pub mod Choosing
pub mod Reading
pub mod Numbers
