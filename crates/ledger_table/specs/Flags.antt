-- These are working words: which operations are ready, as a flag for each.
use Rattle.std.specs.Prelude.{◌≡◌, ℕ, ◌<◌, Bool, true, not, ◌&&◌, List, length, Option, None, Some, slice_get}
use Rattle.layer_model.specs.declared.wiring.Wire.{Wire}
use Rattle.layer_model.specs.Wirings.{input}
use Rattle.ledger_history.specs.declared.event.Event.{Event}
use Rattle.ledger_history.specs.Histories.{is_claimed, is_published}

-- an input is published, if there is one
abbrev pub is_in : List Event → Option ℕ → Bool
is_in h None = true
is_in h (Some j) = is_published h j

abbrev pub has_inputs : List Wire → List Event → ℕ → Bool
has_inputs ws h i = is_in h (input ws i 0) && is_in h (input ws i 1)

abbrev pub is_open : List Wire → List Event → ℕ → Bool
is_open ws h i = not (is_claimed h i) && has_inputs ws h i

pub record FlagsOf (ws : List Wire) (h : List Event) (flags : List Bool) : Type 0 where
  pub all : length flags ≡ length ws
  pub each : (i : ℕ) → i < length ws → slice_get flags i ≡ Some (is_open ws h i)
