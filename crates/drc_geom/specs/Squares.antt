-- Sets of unit squares. Square (x, y) covers x to x + 1 and y to y + 1.
use Rattle.std.specs.Prelude.{Bool, false, ◌&&◌, ◌||◌, ℤ, List, [], ◌∷◌, ◌<ℤ◌}
use Rattle.list_facts.specs.Between.{between}
use Rattle.drc_geom.specs.declared.rect.Rect.{Rect}

-- which squares a set has
abbrev pub Squares : Type 0
Squares = ℤ → ℤ → Bool

-- a rectangle has an area
pub record IsRect (r : Rect) : Type 0 where
  pub wide : r.x0 <ℤ r.x1
  pub high : r.y0 <ℤ r.y1

-- the squares that a rectangle covers
abbrev pub squares_of : Rect → Squares
squares_of r x y = between r.x0 r.x1 x && between r.y0 r.y1 y

-- the squares that some rectangle covers
abbrev pub covered : List Rect → Squares
covered [] x y = false
covered (r ∷ rs) x y = squares_of r x y || covered rs x y
