-- Which numbers meet the limits of a selection by area or by length.
use Rattle.std.specs.Prelude.{ℕ, Bool, true, not, ◌&&◌, ◌||◌, ◌==◌, Option, Some, None}
use Rattle.std.specs.Prelude.{ltb}
use Rattle.layer_model.specs.declared.limits.Bound.{Bound}
use Rattle.layer_model.specs.declared.limits.Limits.{Limits}

-- at the bound, where the bound itself is kept
abbrev pub is_at : Bound → ℕ → Bool
is_at bound number = bound.inclusive && (number == bound.value)

abbrev pub is_above : Option Bound → ℕ → Bool
is_above None number = true
is_above (Some bound) number = ltb bound.value number || is_at bound number

abbrev pub is_below : Option Bound → ℕ → Bool
is_below None number = true
is_below (Some bound) number = ltb number bound.value || is_at bound number

abbrev pub is_equal : Option ℕ → ℕ → Bool
is_equal None number = true
is_equal (Some value) number = number == value

abbrev pub is_other : Option ℕ → ℕ → Bool
is_other None number = true
is_other (Some value) number = not (number == value)

-- the number meets each limit that is there
abbrev pub meets : Limits → ℕ → Bool
meets limits number =
    is_above limits.low number && is_below limits.high number && is_equal limits.equal number && is_other limits.other number
