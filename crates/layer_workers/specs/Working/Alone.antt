-- A worker that works alone.
use Rattle.std.specs.Prelude.{◌≡◌, ℕ, true, false, Some, slice_get}
use Rattle.ledger_history.specs.Histories.{Setup, is_stopped, IsComplete}
use Rattle.ledger_history.specs.Enabled.{Legal}
use Rattle.ledger_core.specs.declared.condition.Condition.{Condition}
use Rattle.ledger_core.specs.declared.condition.Condition.TheVariants.{Idle}
use Rattle.ledger_core.specs.declared.tokens.Seat.{Seat}
use Rattle.ledger_core.specs.Machines.{Machine, IsIdle, SeatAgrees}
use Rattle.layer_workers.specs.declared.driver.Ending.{Ending}
use Rattle.layer_workers.specs.declared.driver.Ending.TheVariants as endings
use Rattle.layer_workers.specs.Outcomes.{GoesOnBy}

-- worker w is at this, and all others are idle
pub record IsAlone (s : Setup) (w : ℕ) (m : Machine) (c : Condition) : Type 0 where
  pub legal : Legal s m.events
  pub at : slice_get m.crew w ≡ Some c
  pub others : (v : ℕ) (d : Condition) → (v ≡ w → ⊥) → slice_get m.crew v ≡ Some d → d ≡ Idle

-- worker w has made some events, and is at this
pub record WentOn (s : Setup) (w : ℕ) (old new : Machine) (c : Condition) : Type 0 where
  pub goes_on : GoesOnBy w old.events new.events
  pub alone : IsAlone s w new c

-- worker w has made some events, and is idle again
pub record Worked (s : Setup) (w : ℕ) (old : Machine) (seat : Seat) (new : Machine) : Type 0 where
  pub worker : seat.worker ≡ w
  pub went : WentOn s w old new Idle

-- worker w has taken turns, and is idle
pub record TakesTurns (w : ℕ) (old now : Machine) (seat : Seat) : Type 0 where
  pub worker : seat.worker ≡ w
  pub agrees : SeatAgrees now seat
  pub idle : IsIdle now
  pub goes_on : GoesOnBy w old.events now.events

-- its turns have ended
abbrev pub Drove : Setup → ℕ → Machine → Ending → Machine → Type 0
Drove s w old endings.Finished new = GoesOnBy w old.events new.events × IsComplete s new.events × (is_stopped new.events ≡ false)
Drove s w old endings.Stopped new = GoesOnBy w old.events new.events × (is_stopped new.events ≡ true)
