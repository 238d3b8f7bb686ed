-- The level steps of an outline, by their direction.
use Rattle.std.specs.Prelude.{Bool, true, false, int_lt, if◌then◌else◌, List, [], ◌∷◌, ◌++◌}
use Rattle.drc_geom.specs.declared.point.Pt.{Pt}
use Rattle.region_form.specs.declared.flip.Flip.{Flip}

-- the step from a to b, where it goes east, or else where it goes west
abbrev pub step : (east : Bool) (a b : Pt) → List Flip
step true a b = if int_lt a.x b.x then record { y = a.y; x0 = a.x; x1 = b.x } ∷ [] else []
step false a b = if int_lt b.x a.x then record { y = a.y; x0 = b.x; x1 = a.x } ∷ [] else []

-- the steps that go east, or else those that go west
abbrev pub steps_of : (east : Bool) → List Pt → List Flip
steps_of east [] = []
steps_of east (a ∷ []) = []
steps_of east (a ∷ b ∷ points) = step east a b ++ steps_of east (b ∷ points)
