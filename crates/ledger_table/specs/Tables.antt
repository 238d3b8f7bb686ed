-- These are working words: what stands in a table.
use Rattle.std.specs.Prelude.{◌≡◌, ℕ, ◌+◌, ◌*◌, ◌^◌, ◌<◌, ◌≤◌, Bool, List, length, Option, Some, slice_get}
use Rattle.layer_model.specs.declared.wiring.Wire.{Wire}
use Rattle.layer_model.specs.Wirings.{IsWiring}
use Rattle.ledger_history.specs.declared.event.Event.{Event}
use Rattle.ledger_history.specs.Histories as history
use Rattle.ledger_history.specs.Enabled.{Legal}
use Rattle.ledger_table.specs.declared.mark.Mark.{Mark}
use Rattle.ledger_table.specs.declared.table.Table.TheInside.{Inside}
use Rattle.ledger_table.specs.Ledgers.{Ledger}
use Rattle.ledger_table.specs.Marks.{MarksOf, wired, run_of}
use Rattle.ledger_table.specs.Flags.{FlagsOf}
use Rattle.ledger_table.specs.Ends.{IsLowest}

-- what each worker holds
abbrev pub HeldOf : List Wire → List Event → List (Option ℕ) → Type 0
HeldOf ws h held = (w : ℕ) (o : Option ℕ) → slice_get held w ≡ Some o → o ≡ history.held (wired ws) h w

-- the parts of a table: what is fixed, the events so far, what is kept of each operation, of each worker and of the
-- ready ones, the lowest unfinished operation, the sum of the costs that are held, whether the run was stopped, and for
-- how many more events there is room
pub record Parts : Type 0 where
  pub wires : List Wire
  pub budget : ℕ
  pub events : List Event
  pub marks : List Mark
  pub held : List (Option ℕ)
  pub ready : List Bool
  pub lowest : ℕ
  pub total : ℕ
  pub stopped : Bool
  pub room : ℕ

-- each part says what the events come to
pub record Stands (t : Parts) : Type 0 where
  pub wiring : IsWiring t.wires
  pub legal : Legal (run_of t.wires t.budget (length t.held) t.events) t.events
  pub marked : MarksOf t.wires t.events t.marks
  pub holds : HeldOf t.wires t.events t.held
  pub flagged : FlagsOf t.wires t.events t.ready
  pub low : IsLowest t.wires t.events t.lowest
  pub counted : t.total ≡ history.total (wired t.wires) t.events
  pub few : t.total ≤ 2 ^ 64 * length t.events
  pub halted : t.stopped ≡ history.is_stopped t.events
  pub space : t.room + length t.events ≡ 5 * length t.wires + length t.held
  pub crew : length t.held < 2 ^ 32

abbrev pub parts_of : Inside → Parts
parts_of t = record {
  wires = t.places;
  budget = t.budget;
  events = t.past.events;
  marks = t.marks.items;
  held = t.held.items;
  ready = t.ready;
  lowest = t.lowest;
  total = t.total;
  stopped = t.stopped;
  room = t.past.room;
}

abbrev pub IsTable : Inside → Type 0
IsTable t = Stands (parts_of t)

abbrev pub ledger_of : Inside → Ledger
ledger_of t = record { wires = t.places; budget = t.budget; workers = length t.held.items; events = t.past.events }
