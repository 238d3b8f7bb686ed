-- The next line of a sweep.
use Rattle.std.specs.Prelude.{ℤ, int_le, if◌then◌else◌, Option, None, Some, List, [], ◌∷◌}
use Rattle.region_form.specs.declared.flip.Flip.{Flip}

-- the lower of the lines of the first flips
abbrev pub lower_line : List Flip → List Flip → Option ℤ
lower_line [] [] = None
lower_line (a ∷ fs) [] = Some a.y
lower_line [] (b ∷ gs) = Some b.y
lower_line (a ∷ fs) (b ∷ gs) = Some (if int_le a.y b.y then a.y else b.y)
