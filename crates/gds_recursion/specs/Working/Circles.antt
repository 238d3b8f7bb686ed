-- Circles of references, and references as uses.
use Rattle.std.specs.Prelude.{◌≡◌, ◌↔◌, ℕ, ◌<◌, Bool, List, Option, Some, slice_get}
use Rattle.std.specs.Global.{Vec}
use Rattle.deck_order.specs.Uses.{IsUse}
use Rattle.gds_reach.specs.References.{named_in, IsOn, Reaches, Refers}

-- structure i refers to one that reaches it
abbrev pub IsOnCircle : List (Vec (Option ℕ)) → (i : ℕ) → Type 0
IsOnCircle links i = (k : ℕ) × Refers links i k × Reaches links k i

-- the reference at this place of structure i names one that reaches it
abbrev pub LeadsBack : List (Vec (Option ℕ)) → (i place : ℕ) → Type 0
LeadsBack links i place = (k : ℕ) × (slice_get (named_in links i) place ≡ Some (Some k)) × Reaches links k i

-- a flagged structure is named at this place
abbrev pub NamesFlagged : List (Option ℕ) → List Bool → (place : ℕ) → Type 0
NamesFlagged named flags place = (k : ℕ) × (slice_get named place ≡ Some (Some k)) × IsOn flags k

-- one of the numbers is j
abbrev pub IsHeld : List ℕ → (j : ℕ) → Type 0
IsHeld numbers j = (place : ℕ) × (slice_get numbers place ≡ Some j)

-- the first n structures use those to which they refer, and no other uses any
abbrev pub AreUses : List (Vec (Option ℕ)) → (n : ℕ) → List (Vec ℕ) → Type 0
AreUses links n uses = (i j : ℕ) → IsUse uses i j ↔ ((i < n) × Refers links i j)
