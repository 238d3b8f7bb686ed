-- Outcomes: how a run ends that one worker drives.
use Rattle.std.specs.Prelude.{◌≡◌, ℕ, true, false, List, [], ◌∷◌, ◌++◌}
use Rattle.std.specs.List.{All}
use Rattle.ledger_history.specs.declared.event.Event.{Event}
use Rattle.ledger_history.specs.Histories.{Setup, is_stopped}
use Rattle.ledger_history.specs.Steps.{worker_of}
use Rattle.ledger_record.specs.declared.history.History.{History}
use Rattle.ledger_record.specs.Records.{past, IsCompleteFor}
use Rattle.ledger_core.specs.declared.tokens.Seat.{Seat}
use Rattle.ledger_core.specs.Endings.{IsRecordOf}
use Rattle.layer_workers.specs.declared.outcome.Outcome.{Outcome}
use Rattle.layer_workers.specs.declared.outcome.Outcome.TheVariants.{Finished, Stopped}

-- the worker of the first seat
abbrev pub first_worker : List Seat → ℕ
first_worker [] = 0
first_worker (seat ∷ seats) = seat.worker

-- the events, newest first, are the earlier ones with more of this worker's
pub record GoesOnBy (w : ℕ) (before after : List Event) : Type 0 where
  pub later : List Event
  pub made : after ≡ later ++ before
  pub own : All (λ e. worker_of e ≡ w) later

-- the record is of a legal run of this setup, whose events are the earlier ones with more of this worker's
pub record IsRunOf (s : Setup) (w : ℕ) (before : List Event) (r : History) : Type 0 where
  pub recorded : IsRecordOf s (past r) r
  pub goes_on : GoesOnBy w before (past r)

-- How a run ends that worker w drives on from the earlier events: finished, where every operation is, or stopped, where
-- there is a stop. The layers that a finished run reports are right for their operations, as all that are reported.
abbrev pub Ends : {J L : Type 0} → Setup → ℕ → List Event → Outcome J L → Type 0
Ends s w before (Finished ended) = IsRunOf s w before ended.history × IsCompleteFor s.wires ended.history × (is_stopped (past ended.history) ≡ false)
Ends s w before (Stopped r) = IsRunOf s w before r × (is_stopped (past r) ≡ true)
