-- Closed right-angled outlines: lists of points in which each step from one to the next is level or upright, and the last
-- point is the first again.
use Rattle.std.specs.Prelude.{◌≡◌, ◌⊎◌, List, [], ◌∷◌}
use Rattle.drc_geom.specs.declared.point.Pt.{Pt}

-- the last of these points
abbrev pub last_of : (first : Pt) → List Pt → Pt
last_of a [] = a
last_of a (b ∷ points) = last_of b points

abbrev pub IsClosed : List Pt → Type 0
IsClosed [] = Unit {0}
IsClosed (a ∷ points) = last_of a points ≡ a

-- a and b differ in x or in y alone, or not at all
abbrev pub IsRightAngledStep : (a b : Pt) → Type 0
IsRightAngledStep a b = (a.x ≡ b.x) ⊎ (a.y ≡ b.y)

abbrev pub IsRightAngled : List Pt → Type 0
IsRightAngled [] = Unit {0}
IsRightAngled (a ∷ []) = Unit {0}
IsRightAngled (a ∷ b ∷ points) = IsRightAngledStep a b × IsRightAngled (b ∷ points)
