-- Flags of structures, and those that wait.
use Rattle.std.specs.Prelude.{◌≡◌, ◌⊎◌, ℕ, ◌+◌, ◌≤◌, Bool, true, false, List, [], ◌∷◌, length, Some, slice_get}
use Rattle.gds_reach.specs.References.{IsOn}

-- how many aren't flagged
abbrev pub off : List Bool → ℕ
off [] = 0
off (true ∷ flags) = off flags
off (false ∷ flags) = off flags + 1

abbrev pub Waits : List ℕ → ℕ → Type 0
Waits waiting i = (a : ℕ) × (slice_get waiting a ≡ Some i)

-- each structure of which this holds is flagged now, and waits where it wasn't flagged before
pub record IsMarked (holds : ℕ → Type 0) (old : List Bool) (waited : List ℕ) (new : List Bool) (waiting : List ℕ) : Type 0 where
  pub all : length new ≡ length old
  pub kept : (i : ℕ) → IsOn old i → IsOn new i
  pub marked : (i : ℕ) → holds i → IsOn new i
  pub sound : (i : ℕ) → IsOn new i → IsOn old i ⊎ (holds i × Waits waiting i)
  pub stays : (i : ℕ) → Waits waited i → Waits waiting i
  pub waits : (i : ℕ) → Waits waiting i → Waits waited i ⊎ holds i
  pub counts : off new + length waiting ≡ off old + length waited
  pub fewer : off new ≤ off old
