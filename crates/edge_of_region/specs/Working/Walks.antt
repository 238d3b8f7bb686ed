-- A walk over a flip, from right to left. It stands on a line of x, and `inside` tells whether the column on its left has a
-- square above the line. `above` are the upright sides that stand above the flip.
use Rattle.std.specs.Prelude.{Bool, not, ℤ, int_lt, if◌then◌else◌, List, [], ◌∷◌}
use Rattle.std.specs.Ordering.{int_eq}
use Rattle.drc_geom.specs.declared.unit.Side.{Side}
use Rattle.drc_geom.specs.declared.unit.Side.TheVariants.{N, E, S, W}
use Rattle.drc_geom.specs.declared.run.Run.{Run}
use Rattle.region_form.specs.declared.flip.Flip.{Flip}
use Rattle.edge_of_region.specs.declared.upright.Upright.{Upright}

-- the side of squares to the west, or to the east, of an upright side
abbrev pub upright_side : (east : Bool) → Side
upright_side east = if east then E else W

-- the side of squares above a line, or below it
abbrev pub level_side : (inside : Bool) → Side
level_side inside = if inside then S else N

-- the run of an upright side that ends on the line
abbrev pub upright_run : (line : ℤ) → Upright → Run
upright_run line u = record { side = upright_side u.east; line = u.line; lo = line; hi = u.top }

abbrev pub level_run : (line lo hi : ℤ) → (inside : Bool) → Run
level_run line lo hi inside = record { side = level_side inside; line = line; lo = lo; hi = hi }

-- the sides that end or lie on the line, left of where the walk stands
abbrev pub sides_from : Flip → (at : ℤ) → (inside : Bool) → List Upright → List Run
sides_from f at inside [] = if int_lt f.x0 at then level_run f.y f.x0 at inside ∷ [] else []
sides_from f at inside (u ∷ above) = upright_run f.y u ∷ level_run f.y u.line at inside ∷ sides_from f u.line u.east above

-- the sides that stand below the line, left of where the walk stands
abbrev pub below_from : Flip → (at : ℤ) → (inside : Bool) → List Upright → List Upright
below_from f at inside [] = if int_lt f.x0 at then record { line = f.x0; top = f.y; east = inside } ∷ [] else []
below_from f at inside (u ∷ above) =
    if int_lt f.x0 u.line then record { line = u.line; top = f.y; east = not u.east } ∷ below_from f u.line u.east above
    else below_from f u.line u.east above

-- and both of the whole flip, where `right` tells whether the column behind it has a square above the line
abbrev pub sides_all : Flip → (right : Bool) → List Upright → List Run
sides_all f right [] = sides_from f f.x1 right []
sides_all f right (u ∷ above) =
    if int_eq u.line f.x1 then upright_run f.y u ∷ sides_from f f.x1 u.east above
    else sides_from f f.x1 right (u ∷ above)

abbrev pub below_all : Flip → (right : Bool) → List Upright → List Upright
below_all f right [] = record { line = f.x1; top = f.y; east = not right } ∷ below_from f f.x1 right []
below_all f right (u ∷ above) =
    if int_eq u.line f.x1 then below_from f f.x1 u.east above
    else record { line = f.x1; top = f.y; east = not right } ∷ below_from f f.x1 right (u ∷ above)
