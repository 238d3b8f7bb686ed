-- Orders of definitions, and which definitions lead back to themselves.
use Rattle.std.specs.Prelude.{◌≡◌, ◌↔◌, ℕ, ◌<◌, Bool, true, List, length, Some, slice_get}
use Rattle.std.specs.Global.{Vec}
use Rattle.deck_order.specs.Uses.{IsUse, Leads}

-- the list has each number below n once, and no other
pub record ListsEach (n : ℕ) (listed : List ℕ) : Type 0 where
  pub below : (k i : ℕ) → slice_get listed k ≡ Some i → i < n
  pub there : (i : ℕ) → i < n → (k : ℕ) × (slice_get listed k ≡ Some i)
  pub once : (j k i : ℕ) → slice_get listed j ≡ Some i → slice_get listed k ≡ Some i → j ≡ k

-- a definition that stands at place k uses one that doesn't lead back to it: that one stands before it
abbrev pub StandBehindUses : List (Vec ℕ) → List ℕ → Type 0
StandBehindUses uses listed =
    (k i j : ℕ) → slice_get listed k ≡ Some i → IsUse uses i j → (Leads uses j i → ⊥) → (m : ℕ) × (m < k) × (slice_get listed m ≡ Some j)

-- a flag for each definition: whether it leads back to itself
pub record TellCyclic (uses : List (Vec ℕ)) (flags : List Bool) : Type 0 where
  pub all : length flags ≡ length uses
  pub each : (i : ℕ) (b : Bool) → slice_get flags i ≡ Some b → (b ≡ true) ↔ Leads uses i i
