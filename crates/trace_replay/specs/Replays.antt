-- Replays: when a trace is that of a run that was allowed and went to its end, and what it came to.
use Rattle.std.specs.Prelude.{◌≡◌, ℕ, ◌≤◌, max, List, [], ◌∷◌, length, Option, slice_index}
use Rattle.layer_model.specs.declared.wiring.Wire.{Wire}
use Rattle.ledger_history.specs.declared.event.Event.{Event}
use Rattle.ledger_history.specs.Histories.{Setup, IsComplete, total}
use Rattle.ledger_history.specs.Enabled.{Legal}
use Rattle.ledger_record.specs.Records.{past_of}
use Rattle.trace_text.specs.Traces.{Told, Spells, longest_trace}
use Rattle.trace_text.specs.Refusals.{Terms, Differs}
use Rattle.trace_replay.specs.declared.summary.Summary.{Summary}

-- what a trace is held against: this wiring, and the number of workers and the budget, where they are given
abbrev pub asking : List Wire → Option ℕ → Option ℕ → Terms
asking wires workers budget = record { wires = wires; workers = workers; budget = budget }

-- what is fixed for the run that a trace tells, over the wiring that it is held against
abbrev pub run_of : Terms → Told → Setup
run_of terms t = record { wires = terms.wires; cost = λ i. slice_index t.costs i; budget = t.budget; workers = t.workers }

-- the header is that of a run of this wiring, of 1 to 64 workers, and of the workers and the budget that are asked for
pub record HeaderMeets (terms : Terms) (t : Told) : Type 0 where
  pub operations : t.operations ≡ length terms.wires
  pub some : 1 ≤ t.workers
  pub few : t.workers ≤ 64
  pub workers : Differs terms.workers t.workers → ⊥
  pub budget : Differs terms.budget t.budget → ⊥

-- each event was allowed after those before it, and every operation is finished
pub record Meets (terms : Terms) (t : Told) : Type 0 where
  pub header : HeaderMeets terms t
  pub legal : Legal (run_of terms t) (past_of t.events)
  pub complete : IsComplete (run_of terms t) (past_of t.events)

-- the greatest total that a history had at any time; its newest event stands first
abbrev pub peak : Setup → List Event → ℕ
peak s [] = 0
peak s (e ∷ h) = max (peak s h) (total s (e ∷ h))

-- the text is the trace of such a run, and this is what it came to
pub record Replays (terms : Terms) (text : List ℕ) (sum : Summary) : Type 0 where
  pub told : Told
  pub spells : Spells text told
  pub short : length text ≤ longest_trace
  pub meets : Meets terms told
  pub operations : sum.operations ≡ told.operations
  pub events : sum.events ≡ length told.events
  pub peak : sum.peak ≡ peak (run_of terms told) (past_of told.events)
