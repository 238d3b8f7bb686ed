-- Rectangles that don't overlap.
use Rattle.std.specs.Prelude.{◌≡◌, false, ◌&&◌, ℤ, List, [], ◌∷◌}
use Rattle.drc_geom.specs.declared.rect.Rect.{Rect}
use Rattle.drc_geom.specs.Squares.{covered, squares_of}

-- no square lies in two rectangles of the list
abbrev pub AreDisjoint : List Rect → Type 0
AreDisjoint [] = Unit {0}
AreDisjoint (r ∷ rs) = ((x y : ℤ) → (squares_of r x y && covered rs x y) ≡ false) × AreDisjoint rs
