-- Printed traces: what the text of a history tells.
use Rattle.std.specs.Prelude.{◌≡◌, ℕ, ◌<◌, ◌==◌, if◌then◌else◌, List, [], ◌∷◌, length, slice_index}
use Rattle.ledger_history.specs.declared.event.Event.{Event}
use Rattle.ledger_history.specs.declared.event.Event.TheVariants.{Charge}
use Rattle.ledger_record.specs.declared.history.History.{History}
use Rattle.ledger_record.specs.Records.{past}
use Rattle.trace_text.specs.Traces.{Told, Spells}

-- the cost of an operation's newest charge, and 0 where it has none; the newest event stands first
abbrev pub charged_cost : List Event → ℕ → ℕ
charged_cost [] i = 0
charged_cost (Charge w j c ∷ h) i = if j == i then c else charged_cost h i
charged_cost (e ∷ h) i = charged_cost h i

-- the costs are those of the history's own charges, one for each operation
pub record AreCharges (h : History) (costs : List ℕ) : Type 0 where
  pub count : length costs ≡ h.operations
  pub each : (i : ℕ) → i < h.operations → slice_index costs i ≡ charged_cost (past h) i

-- what is told of a history with these costs
abbrev pub told_of : History → List ℕ → Told
told_of h costs = record { operations = h.operations; workers = h.workers; budget = h.budget; costs = costs; events = h.events.items }

-- the text is that of the history, with the costs of its own charges
pub record Prints (h : History) (text : List ℕ) : Type 0 where
  pub costs : List ℕ
  pub charges : AreCharges h costs
  pub spells : Spells text (told_of h costs)
