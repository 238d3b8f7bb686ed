-- How far from the origin the rectangles of a layout lie.
use Rattle.std.specs.Prelude.{◌^◌, pos, ◌≤ℤ◌}
use Rattle.drc_geom.specs.declared.rect.Rect.{Rect}
use Rattle.drc_geom.specs.Squares.{IsRect}

-- the rectangle has an area, and lies up and to the right of the origin by at most 2^33 database units
pub record IsInReach (r : Rect) : Type 0 where
  pub area : IsRect r
  pub left : pos 0 ≤ℤ r.x0
  pub below : pos 0 ≤ℤ r.y0
  pub right : r.x1 ≤ℤ pos (2 ^ 33)
  pub above : r.y1 ≤ℤ pos (2 ^ 33)
