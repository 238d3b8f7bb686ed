-- Ledgers: what a table keeps of a run.
use Rattle.std.specs.Prelude.{ℕ, ◌==◌, if◌then◌else◌, List, [], ◌∷◌}
use Rattle.layer_model.specs.declared.wiring.Wire.{Wire}
use Rattle.ledger_history.specs.declared.event.Event.{Event}
use Rattle.ledger_history.specs.declared.event.Event.TheVariants.{Charge}
use Rattle.ledger_history.specs.Histories.{Setup}
use Rattle.ledger_history.specs.Enabled.{Enabled, Legal}

-- A ledger: which operations read which, the budget, the number of workers, and the events that were made, newest first.
pub record Ledger : Type 0 where
  pub wires : List Wire
  pub budget : ℕ
  pub workers : ℕ
  pub events : List Event

-- what is fixed for the ledger's run, where each operation has this cost
abbrev pub setup_with : (ℕ → ℕ) → Ledger → Setup
setup_with cost t = record { wires = t.wires; cost = cost; budget = t.budget; workers = t.workers }

-- the cost of an operation's newest charge, and 0 where there is none
abbrev pub charged_cost : List Event → ℕ → ℕ
charged_cost [] i = 0
charged_cost (Charge w j c ∷ h) i = if j == i then c else charged_cost h i
charged_cost (e ∷ h) i = charged_cost h i

-- What is fixed for the ledger's run, with the costs of its own charges. What a history says of live layers, totals and
-- workers doesn't depend on these costs.
abbrev pub setup_of : Ledger → Setup
setup_of t = setup_with (charged_cost t.events) t

-- the ledger with one more event
abbrev pub with_event : Ledger → Event → Ledger
with_event t e = record { wires = t.wires; budget = t.budget; workers = t.workers; events = e ∷ t.events }

-- the event may happen next, where the operations have some costs
pub record IsAllowed (t : Ledger) (e : Event) : Type 0 where
  pub cost : ℕ → ℕ
  pub enabled : Enabled (setup_with cost t) t.events e

-- the events are legal with the costs of their own charges
abbrev pub IsLegal : Ledger → Type 0
IsLegal t = Legal (setup_of t) t.events
