-- Corners: the ends of flips, by the line of x on which they lie.
use Rattle.std.specs.Prelude.{◌≡◌, ◌⊎◌, Bool, false, ◌&&◌, ℤ, ◌<ℤ◌, ◌≤ℤ◌, int_le, int_lt, if◌then◌else◌, List, [], ◌∷◌}
use Rattle.std.specs.List.{AllByRecursion}
use Rattle.list_facts.specs.EitherOr.{exactly_one}
use Rattle.region_form.specs.declared.flip.Flip.{Flip}
use Rattle.region_turn.specs.declared.corner.Corner.{Corner}

-- the ends of flips
abbrev pub corners_of : List Flip → List Corner
corners_of [] = []
corners_of (f ∷ fs) = record { line = f.x0; row = f.y } ∷ record { line = f.x1; row = f.y } ∷ corners_of fs

-- whether an odd number of corners lie on or before line x and at or below row y
abbrev pub odd_corners : List Corner → (x y : ℤ) → Bool
odd_corners [] x y = false
odd_corners (c ∷ cs) x y = exactly_one (int_le c.line x && int_le c.row y) (odd_corners cs x y)

-- whether an odd number of corners lie on or before line x
abbrev pub odd_up_to : List Corner → ℤ → Bool
odd_up_to [] x = false
odd_up_to (c ∷ cs) x = exactly_one (int_le c.line x) (odd_up_to cs x)

-- d lies on a line behind that of c, or on its line and no lower
abbrev pub Follows : Corner → Corner → Type 0
Follows c d = (c.line <ℤ d.line) ⊎ ((c.line ≡ d.line) × (c.row ≤ℤ d.row))

-- by line and then row
abbrev pub Ascend : List Corner → Type 0
Ascend [] = Unit {0}
Ascend (c ∷ cs) = AllByRecursion (Follows c) cs × Ascend cs

-- the flips from the first corner to the second, from the third to the fourth, and so on
abbrev pub flips_between : List Corner → List Flip
flips_between [] = []
flips_between (c ∷ []) = []
flips_between (c ∷ d ∷ cs) =
    if int_lt c.row d.row then record { y = c.line; x0 = c.row; x1 = d.row } ∷ flips_between cs
    else flips_between cs
