-- How often a closed right-angled outline winds round a square. The outline is a list of points, each step from one to
-- the next is horizontal or vertical, and the last point is the first again.
--
--        4 ------<------ 3         To the right of square (x, y) the row y is crossed upwards by the step 2 to 3
--        |               |         and, if the square lies outside on the left, downwards by the step 4 to 5, too.
--        v    (x, y)     ^
--        |               |
--      1,5 ------>------ 2
use Rattle.std.specs.Prelude.{Bool, ◌&&◌, ℤ, pos, ◌+ℤ◌, ◌-ℤ◌, int_lt, if◌then◌else◌, List, [], ◌∷◌}
use Rattle.list_facts.specs.Between.{between}
use Rattle.drc_geom.specs.declared.point.Pt.{Pt}
use Rattle.drc_geom.specs.declared.rect.Rect.{Rect}

-- a step from a to b crosses row y upwards, on a line to the right of column x
abbrev pub rises_beside : (a b : Pt) → (x y : ℤ) → Bool
rises_beside a b x y = between a.y b.y y && int_lt x a.x

-- the upward steps to the right of square (x, y) that cross its row, less the downward ones
abbrev pub winding : List Pt → (x y : ℤ) → ℤ
winding [] x y = pos 0
winding (a ∷ []) x y = pos 0
winding (a ∷ b ∷ points) x y =
    ((if rises_beside a b x y then pos 1 else pos 0) -ℤ (if rises_beside b a x y then pos 1 else pos 0)) +ℤ winding (b ∷ points) x y

-- the outline of a rectangle, from its lower left corner counterclockwise
abbrev pub outline : Rect → List Pt
outline r =
    record { x = r.x0; y = r.y0 } ∷ record { x = r.x1; y = r.y0 } ∷ record { x = r.x1; y = r.y1 } ∷ record { x = r.x0; y = r.y1 } ∷ record { x = r.x0; y = r.y0 } ∷ []
