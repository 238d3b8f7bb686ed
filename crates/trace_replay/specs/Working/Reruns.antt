-- Working words of making the events again: the first that may not be made.
use Rattle.std.specs.Prelude.{◌≡◌, ℕ, List, ◌∷◌, ◌++◌, length}
use Rattle.ledger_history.specs.declared.event.Event.{Event}
use Rattle.ledger_history.specs.Histories.{Setup, setup_of_lists}
use Rattle.ledger_history.specs.Enabled.{Enabled, Legal}
use Rattle.ledger_record.specs.Records.{past_of}
use Rattle.ledger_table.specs.Ledgers.{Ledger}
use Rattle.trace_text.specs.declared.fault.TraceReason.{TraceReason}
use Rattle.trace_text.specs.declared.fault.TraceReason.TheVariants.{WrongCharge, NotEnabled}
use Rattle.trace_text.specs.Refusals.{IsWrongCharge}

-- what is fixed for the ledger's run where these are the costs
abbrev pub setup_at : List ℕ → Ledger → Setup
setup_at costs t = setup_of_lists t.wires costs t.budget t.workers

-- the event may not be made after the history, for this reason
abbrev pub IsBarred : Setup → List ℕ → List Event → Event → TraceReason → Type 0
IsBarred s costs h e WrongCharge = IsWrongCharge costs e
IsBarred s costs h e NotEnabled = (IsWrongCharge costs e → ⊥) × (Enabled s h e → ⊥)
IsBarred s costs h e reason = ⊥

-- the event at this index is the first that may not be made
pub record StopsAt (s : Setup) (costs : List ℕ) (events : List Event) (index : ℕ) (reason : TraceReason) : Type 0 where
  pub before : List Event
  pub event : Event
  pub after : List Event
  pub parts : events ≡ before ++ event ∷ after
  pub at : length before ≡ index
  pub legal : Legal s (past_of before)
  pub barred : IsBarred s costs (past_of before) event reason

-- the ledger of the same run after these events
abbrev pub ledger_after : Ledger → List Event → Ledger
ledger_after t events = record { wires = t.wires; budget = t.budget; workers = t.workers; events = past_of events }
