-- Sets of numbers as a flag for each number below a bound.
use Rattle.std.specs.Prelude.{◌≡◌, ℕ, ◌<◌, Bool, true, false, List, length, Some, slice_get}

-- n is a member, and no lower number is
pub record IsLowest (flags : List Bool) (n : ℕ) : Type 0 where
  pub member : slice_get flags n ≡ Some true
  pub lowest : (m : ℕ) → m < n → slice_get flags m ≡ Some false

-- no number is a member
abbrev pub IsEmpty : List Bool → Type 0
IsEmpty flags = (m : ℕ) → m < length flags → slice_get flags m ≡ Some false
