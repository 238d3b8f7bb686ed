-- The form of a wiring, wire by wire.
use Rattle.std.specs.Prelude.{◌≡◌, ◌⊎◌, ℕ, ◌<◌, true, List, length, None, Some, slice_get}
use Rattle.layer_model.specs.declared.wiring.Wire.{Wire}
use Rattle.layer_model.specs.Wirings.{place_of, is_reported, reader_count}

-- the wire of operation i reads lower operations alone, and place 1 stands only beside place 0
pub record IsFormed (w : Wire) (i : ℕ) : Type 0 where
  pub lower : (k j : ℕ) → place_of w k ≡ Some j → j < i
  pub in_order : w.first ≡ None → w.second ≡ None

abbrev pub AllFormed : List Wire → Type 0
AllFormed ws = (i : ℕ) (w : Wire) → slice_get ws i ≡ Some w → IsFormed w i

abbrev pub AllUsed : List Wire → Type 0
AllUsed ws = (i : ℕ) → i < length ws → (is_reported ws i ≡ true) ⊎ (0 < reader_count ws i)
