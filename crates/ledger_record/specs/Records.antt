-- Records: a run's events, oldest first, read as a history, whose newest event stands first.
use Rattle.std.specs.Prelude.{◌≡◌, ℕ, List, length, reverse, slice_index}
use Rattle.layer_model.specs.declared.wiring.Wire.{Wire}
use Rattle.ledger_history.specs.declared.event.Event.{Event}
use Rattle.ledger_history.specs.Histories.{Setup, IsComplete}
use Rattle.ledger_history.specs.Enabled.{Legal}
use Rattle.ledger_record.specs.declared.history.History.{History}

-- events that stand oldest first, newest first
abbrev pub past_of : List Event → List Event
past_of events = reverse events

-- what happened in the run, newest first
abbrev pub past : History → List Event
past h = past_of h.events.items

-- what is fixed for a run: its budget and its number of workers, and from outside the wires and the costs
abbrev pub setup_of : List Wire → (ℕ → ℕ) → History → Setup
setup_of ws cost h = record { wires = ws; cost = cost; budget = h.budget; workers = h.workers }

-- the record is of a run of this wiring, and each event was enabled after the events before it
pub record IsLegalFor (ws : List Wire) (cost : ℕ → ℕ) (h : History) : Type 0 where
  pub same : h.operations ≡ length ws
  pub legal : Legal (setup_of ws cost h) (past h)

-- every operation of the wiring is finished, whatever the costs are
abbrev pub IsCompleteFor : List Wire → History → Type 0
IsCompleteFor ws h = IsComplete (setup_of ws (λ _. 0) h) (past h)

-- costs that are a list, by operation
abbrev pub costs_of : List ℕ → ℕ → ℕ
costs_of costs i = slice_index costs i
