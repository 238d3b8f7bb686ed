-- The canonical rectangles of a set of squares. In each row of squares a stretch is a maximal row of adjacent squares of
-- the set, and a canonical rectangle is a maximal stack of equal stretches in consecutive rows.
--
--      +-----+                 the canonical rectangles of this set are the stretch of columns 0 to 2 in row 0, and the
--   +--+-----+   rows 1, 2     stack of the stretches of columns 1 and 2 in rows 1 and 2
--   +--------+   row 0
use Rattle.std.specs.Prelude.{◌≡◌, true, false, ℤ, pos, ◌-ℤ◌, ◌<ℤ◌, ◌≤ℤ◌}
use Rattle.std.specs.Ordering.{int_cmp, ordering_then}
use Rattle.std.specs.declared.cmp.Ordering.{Ordering}
use Rattle.drc_geom.specs.declared.rect.Rect.{Rect}
use Rattle.drc_geom.specs.Squares.{Squares}

-- in row y the columns x0 to x1 - 1 have squares of the set, and the columns next to them have none
pub record IsStretch (set : Squares) (y x0 x1 : ℤ) : Type 0 where
  pub wide : x0 <ℤ x1
  pub inside : (x : ℤ) → x0 ≤ℤ x → x <ℤ x1 → set x y ≡ true
  pub before : set (x0 -ℤ pos 1) y ≡ false
  pub behind : set x1 y ≡ false

-- in each row of the rectangle its columns are a stretch, and they are none in the rows below it and above it
pub record IsCanonical (set : Squares) (r : Rect) : Type 0 where
  pub high : r.y0 <ℤ r.y1
  pub rows : (y : ℤ) → r.y0 ≤ℤ y → y <ℤ r.y1 → IsStretch set y r.x0 r.x1
  pub below : IsStretch set (r.y0 -ℤ pos 1) r.x0 r.x1 → ⊥
  pub above : IsStretch set r.y1 r.x0 r.x1 → ⊥

-- by the lowest row, then by the first column
abbrev pub rect_order : Rect → Rect → Ordering
rect_order r s = ordering_then (int_cmp r.y0 s.y0) (int_cmp r.x0 s.x0)
