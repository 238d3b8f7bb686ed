-- Growing and shrinking sets of squares.
--
--      . . . . .         the squares that are near to the one in the middle, for d = 2
--      . . . . .
--      . . # . .
--      . . . . .
--      . . . . .
use Rattle.std.specs.Prelude.{◌≡◌, true, ℤ, pos, ◌+ℤ◌, ◌-ℤ◌, ◌<ℤ◌, ◌≤ℤ◌}
use Rattle.drc_geom.specs.Squares.{Squares}

-- square (column, row) lies within d columns and d rows of square (x, y)
pub record IsNear (d x y column row : ℤ) : Type 0 where
  pub right : (x -ℤ d) ≤ℤ column
  pub left : column ≤ℤ (x +ℤ d)
  pub above : (y -ℤ d) ≤ℤ row
  pub below : row ≤ℤ (y +ℤ d)

-- a square of the set is near
pub record HasNear (set : Squares) (d x y : ℤ) : Type 0 where
  pub column : ℤ
  pub row : ℤ
  pub near : IsNear d x y column row
  pub has : set column row ≡ true

-- all squares that are near are in the set
abbrev pub AllNear : Squares → (d x y : ℤ) → Type 0
AllNear set d x y = (column row : ℤ) → IsNear d x y column row → set column row ≡ true

-- a square lies at most so far from the origin
pub record IsWithin (limit x y : ℤ) : Type 0 where
  pub right : (pos 0 -ℤ limit) ≤ℤ x
  pub left : x <ℤ limit
  pub above : (pos 0 -ℤ limit) ≤ℤ y
  pub below : y <ℤ limit

-- all squares of the set do
abbrev pub LieWithin : (limit : ℤ) → Squares → Type 0
LieWithin limit set = (x y : ℤ) → set x y ≡ true → IsWithin limit x y
