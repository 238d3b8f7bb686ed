-- Ends: columns from which on the squares of a row change. A column changes where an odd number of ends are at or
-- before it.
use Rattle.std.specs.Prelude.{◌≡◌, Bool, false, not, ℤ, ◌<ℤ◌, ◌≤ℤ◌, int_le, List, [], ◌∷◌, ◌++◌}
use Rattle.std.specs.List.{AllByRecursion}
use Rattle.list_facts.specs.EitherOr.{exactly_one}
use Rattle.region_form.specs.declared.flip.Flip.{Flip}

-- whether an odd number of ends are at or before column x
abbrev pub odd_ends : List ℤ → ℤ → Bool
odd_ends [] x = false
odd_ends (e ∷ es) x = exactly_one (int_le e x) (odd_ends es x)

-- whether there is an odd number of ends
abbrev pub is_odd_number : List ℤ → Bool
is_odd_number [] = false
is_odd_number (e ∷ es) = not (is_odd_number es)

abbrev pub AscendStrictly : List ℤ → Type 0
AscendStrictly [] = Unit {0}
AscendStrictly (e ∷ es) = AllByRecursion (λ f. e <ℤ f) es × AscendStrictly es

-- the flips of a line, from one end to the next
abbrev pub flips_of : (line : ℤ) → List ℤ → List Flip
flips_of line [] = []
flips_of line (a ∷ []) = []
flips_of line (a ∷ b ∷ es) = record { y = line; x0 = a; x1 = b } ∷ flips_of line es

abbrev pub AscendWeakly : List ℤ → Type 0
AscendWeakly [] = Unit {0}
AscendWeakly (e ∷ es) = AllByRecursion (λ f. e ≤ℤ f) es × AscendWeakly es

-- the last end
pub record EndsWith (end : ℤ) (ends : List ℤ) : Type 0 where
  pub front : List ℤ
  pub is : ends ≡ front ++ end ∷ []

-- there is no last end, or it is another
abbrev pub DoesNotEndWith : ℤ → List ℤ → Type 0
DoesNotEndWith end ends = (front : List ℤ) → ends ≡ front ++ end ∷ [] → ⊥
