-- Working words: of the sweep over the sides of rectangles. No clause of a public function reaches them.
pub mod Overlaps
pub mod Sides
