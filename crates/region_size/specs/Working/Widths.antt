-- Growing by different numbers of columns and rows, square by square and rectangle by rectangle.
use Rattle.std.specs.Prelude.{◌≡◌, true, ◌^◌, ℤ, pos, ◌+ℤ◌, ◌-ℤ◌, ◌≤ℤ◌}
use Rattle.drc_geom.specs.declared.rect.Rect.{Rect}
use Rattle.drc_geom.specs.Squares.{Squares}

-- square (column, row) lies within dx columns and dy rows of square (x, y), and is in the set
pub record HasNearBy (set : Squares) (dx dy x y : ℤ) : Type 0 where
  pub column : ℤ
  pub row : ℤ
  pub right : (x -ℤ dx) ≤ℤ column
  pub left : column ≤ℤ (x +ℤ dx)
  pub above : (y -ℤ dy) ≤ℤ row
  pub below : row ≤ℤ (y +ℤ dy)
  pub has : set column row ≡ true

-- the rectangle, wider by dx and higher by dy on either side
abbrev pub widened : (dx dy : ℤ) → Rect → Rect
widened dx dy r = record { x0 = r.x0 -ℤ dx; y0 = r.y0 -ℤ dy; x1 = r.x1 +ℤ dx; y1 = r.y1 +ℤ dy }

-- the rectangle's sides lie at most so far from the origin
pub record LiesWithin (limit : ℤ) (r : Rect) : Type 0 where
  pub x0 : (pos 0 -ℤ limit) ≤ℤ r.x0
  pub y0 : (pos 0 -ℤ limit) ≤ℤ r.y0
  pub x1 : r.x1 ≤ℤ limit
  pub y1 : r.y1 ≤ℤ limit

-- what is looked at where a region is shrunk
abbrev pub frame : Rect
frame = record { x0 = pos 0 -ℤ pos (2 ^ 41); y0 = pos 0 -ℤ pos (2 ^ 41); x1 = pos (2 ^ 41); y1 = pos (2 ^ 41) }
