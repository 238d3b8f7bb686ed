-- Turns: one operation of a worker that works alone, from its claim to its end.
use Rattle.std.specs.Prelude.{◌≡◌, ℕ, ◌<◌, true, false, length}
use Rattle.ledger_history.specs.Histories.{Setup, is_stopped, IsComplete}
use Rattle.ledger_history.specs.Enabled.{Legal}
use Rattle.ledger_core.specs.declared.tokens.Seat.{Seat}
use Rattle.ledger_core.specs.Machines.{Machine, IsIdle, SeatAgrees}
use Rattle.layer_workers.specs.declared.turn.Turn.{Turn}
use Rattle.layer_workers.specs.declared.turn.Turn.TheVariants.{Worked, Done, Stopped}
use Rattle.layer_workers.specs.Outcomes.{GoesOnBy}

-- worker w has made events, and is idle again, as all others are
pub record HasWorked (s : Setup) (w : ℕ) (old : Machine) (seat : Seat) (new : Machine) : Type 0 where
  pub worker : seat.worker ≡ w
  pub goes_on : GoesOnBy w old.events new.events
  pub some : length old.events < length new.events
  pub legal : Legal s new.events
  pub idle : IsIdle new
  pub agrees : SeatAgrees new seat

-- A turn of worker w: it has worked, or nothing has changed, since all is finished or the run is stopped.
abbrev pub Turned : Setup → ℕ → Machine → Turn → Machine → Type 0
Turned s w old (Worked seat) new = HasWorked s w old seat new
Turned s w old Done new = (new ≡ old) × IsComplete s old.events × (is_stopped old.events ≡ false)
Turned s w old Stopped new = (new ≡ old) × (is_stopped old.events ≡ true)
