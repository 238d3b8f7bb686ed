-- Machines: what a state keeps of a run: its events, newest first, and what each worker is at.
use Rattle.std.specs.Prelude.{◌≡◌, ◌⊎◌, ℕ, true, false, List, ◌∷◌, None, Some, slice_get, slice_set}
use Rattle.ledger_history.specs.declared.event.Event.{Event}
use Rattle.ledger_history.specs.Histories.{Setup, held, is_charged, is_published, is_stopped, releases}
use Rattle.ledger_core.specs.declared.condition.Condition.{Condition}
use Rattle.ledger_core.specs.declared.condition.Condition.TheVariants.{Idle, Claimed, Charged, Published}
use Rattle.ledger_core.specs.declared.tokens.Seat.{Seat}
use Rattle.ledger_core.specs.Tokens.{Holding, Releasing}

pub record Machine : Type 0 where
  pub events : List Event
  pub crew : List Condition

-- the machine after one more event, which leaves the worker in this condition and the others as they are
abbrev pub after : Machine → Event → ℕ → Condition → Machine
after m e w c = record { events = e ∷ m.events; crew = slice_set m.crew w c }

-- A token agrees with a machine that has its worker in its condition.
abbrev pub SeatAgrees : Machine → Seat → Type 0
SeatAgrees m seat = slice_get m.crew seat.worker ≡ Some Idle

abbrev pub TicketAgrees : Machine → Holding → Type 0
TicketAgrees m t = slice_get m.crew t.worker ≡ Some (Claimed t.op)

abbrev pub ChargedAgrees : Machine → Holding → Type 0
ChargedAgrees m c = slice_get m.crew c.worker ≡ Some (Charged c.op)

abbrev pub PublishedAgrees : Machine → Releasing → Type 0
PublishedAgrees m p = slice_get m.crew p.worker ≡ Some (Published p.op p.released)

-- nobody is busy
abbrev pub IsIdle : Machine → Type 0
IsIdle m = (w : ℕ) (c : Condition) → slice_get m.crew w ≡ Some c → c ≡ Idle

-- What a worker's condition says of the events: an idle one holds nothing, or the run is stopped; a busy one holds its
-- operation.
abbrev pub Fits : Setup → List Event → ℕ → Condition → Type 0
Fits s h w Idle = (held s h w ≡ None) ⊎ (is_stopped h ≡ true)
Fits s h w (Claimed i) = (held s h w ≡ Some i) × (is_charged h i ≡ false)
Fits s h w (Charged i) = (held s h w ≡ Some i) × (is_charged h i ≡ true) × (is_published h i ≡ false)
Fits s h w (Published i k) = (held s h w ≡ Some i) × (is_published h i ≡ true) × (releases h i ≡ k)
