-- Uses of definitions by definitions, and where they lead. A definition is its number.
use Rattle.std.specs.Prelude.{◌≡◌, ℕ, zero, suc, ◌<◌, List, [], ◌∷◌, length, Some, slice_get}
use Rattle.std.specs.Global.{Vec}

-- the definitions that definition i uses
abbrev pub used_by : List (Vec ℕ) → ℕ → List ℕ
used_by [] i = []
used_by (v ∷ vs) zero = v.items
used_by (v ∷ vs) (suc i) = used_by vs i

-- definition i uses definition j
abbrev pub IsUse : List (Vec ℕ) → (i j : ℕ) → Type 0
IsUse uses i j = (place : ℕ) × (slice_get (used_by uses i) place ≡ Some j)

-- one use after another leads from definition i to definition j
pub data Leads (uses : List (Vec ℕ)) : ℕ → ℕ → Type 0 where
  at_once : {i j : ℕ} → IsUse uses i j → Leads uses i j
  by : {i j k : ℕ} → IsUse uses i k → Leads uses k j → Leads uses i j

-- each use is of one of the definitions
abbrev pub AreWithin : List (Vec ℕ) → Type 0
AreWithin uses = (i j : ℕ) → IsUse uses i j → j < length uses
