-- How often flips change a column: all of them, or those at or below a row.
use Rattle.std.specs.Prelude.{◌&&◌, ℕ, ◌+◌, ℤ, ◌<ℤ◌, ◌≤ℤ◌, int_le, if◌then◌else◌, List, [], ◌∷◌}
use Rattle.std.specs.List.{AllByRecursion}
use Rattle.region_form.specs.declared.flip.Flip.{Flip}
use Rattle.region_form.specs.Flips.{changes}

-- how many flips change column x
abbrev pub times : List Flip → ℤ → ℕ
times [] x = 0
times (f ∷ fs) x = if changes f x then times fs x + 1 else times fs x

-- how many flips at or below row y change column x
abbrev pub times_up_to : List Flip → ℤ → ℤ → ℕ
times_up_to [] x y = 0
times_up_to (f ∷ fs) x y = if int_le f.y y && changes f x then times_up_to fs x y + 1 else times_up_to fs x y

-- no flip lies below one before it
abbrev pub Rise : List Flip → Type 0
Rise [] = Unit {0}
Rise (f ∷ fs) = AllByRecursion (λ g. f.y ≤ℤ g.y) fs × Rise fs

-- each flip changes some column
abbrev pub AreWide : List Flip → Type 0
AreWide = AllByRecursion (λ f. f.x0 <ℤ f.x1)
