-- Whether charges have the costs of their operations.
use Rattle.std.specs.Prelude.{◌≡◌, ℕ, false, List, [], ◌∷◌, Some, slice_index}
use Rattle.ledger_history.specs.declared.event.Event.{Event}
use Rattle.ledger_history.specs.declared.event.Event.TheVariants.{Charge}
use Rattle.ledger_history.specs.Histories.{is_stopped, is_charged, held}
use Rattle.ledger_table.specs.Ledgers.{Ledger, setup_of}

-- a charge has its operation's cost, as this function has it
abbrev pub HasCost : (ℕ → ℕ) → Event → Type 0
HasCost cost (Charge w i c) = c ≡ cost i
HasCost cost e = Unit {0}

-- a charge has its operation's cost, as this list has it
abbrev pub IsCharged : List ℕ → Event → Type 0
IsCharged costs e = HasCost (λ i. slice_index costs i) e

-- each charge of a history has its operation's cost
abbrev pub HaveCosts : (ℕ → ℕ) → List Event → Type 0
HaveCosts cost [] = Unit {0}
HaveCosts cost (e ∷ h) = HasCost cost e × HaveCosts cost h

-- worker w may charge operation i, as far as the budget lets it
pub record MayBeCharged (t : Ledger) (w i : ℕ) : Type 0 where
  pub runs : is_stopped t.events ≡ false
  pub holds : held (setup_of t) t.events w ≡ Some i
  pub uncharged : is_charged t.events i ≡ false
