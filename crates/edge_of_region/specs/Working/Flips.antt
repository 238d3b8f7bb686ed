-- The sides that stand above a flip, among all that stand in the rows above its line: those behind it, those over it from
-- its right end to its left one, and those before it.
use Rattle.std.specs.Prelude.{Bool, false, Option, None, Some, int_le, int_lt, List}
use Rattle.std.specs.List.{before_first}
use Rattle.chunked_list.specs.Stretches.{from_first}
use Rattle.region_form.specs.declared.flip.Flip.{Flip}
use Rattle.edge_of_region.specs.declared.upright.Upright.{Upright}

abbrev pub front_of : Flip → List Upright → List Upright
front_of f all = before_first (λ (u : Upright). int_le u.line f.x1) all

abbrev pub over_of : Flip → List Upright → List Upright
over_of f all = before_first (λ (u : Upright). int_lt u.line f.x0) (from_first (λ (u : Upright). int_le u.line f.x1) all)

abbrev pub back_of : Flip → List Upright → List Upright
back_of f all = from_first (λ (u : Upright). int_lt u.line f.x0) (from_first (λ (u : Upright). int_le u.line f.x1) all)

-- whether the column before the next side on the right has a square
abbrev pub right_of : Option Upright → Bool
right_of None = false
right_of (Some u) = u.east
