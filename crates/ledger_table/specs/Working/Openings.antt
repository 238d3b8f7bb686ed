-- How a publish makes operations ready, one reader after another.
use Rattle.std.specs.Prelude.{◌≡◌, ◌⊎◌, ℕ, ◌/◌, ◌<◌, ◌≤◌, Bool, true, false, ◌&&◌, List, [], ◌∷◌, length, Option, None, Some, slice_get}
use Rattle.layer_model.specs.declared.wiring.Wire.{Wire}
use Rattle.ledger_history.specs.declared.event.Event.{Event}
use Rattle.ledger_history.specs.declared.event.Event.TheVariants.{Publish}
use Rattle.ledger_history.specs.Enabled.{Legal}
use Rattle.ledger_table.specs.declared.mark.Mark.{Mark}
use Rattle.ledger_table.specs.Marks.{MarksOf, run_of}
use Rattle.ledger_table.specs.Flags.{is_open, FlagsOf}
use Rattle.ledger_table.specs.Working.Places.{read_at, bound_of, IsReaderOf}

abbrev pub is_no_input : Option ℕ → Bool
is_no_input None = true
is_no_input (Some j) = false

-- the operation of this wire is ready at the start
abbrev pub starts_open : Wire → Bool
starts_open w = is_no_input w.first && is_no_input w.second

-- the flags at the start, where those from n on aren't written yet
pub record StartsTo (ws : List Wire) (n : ℕ) (flags : List Bool) : Type 0 where
  pub all : length flags ≡ length ws
  pub written : (i : ℕ) → i < n → slice_get flags i ≡ Some (is_open ws [] i)
  pub unwritten : (i : ℕ) → n ≤ i → i < length ws → slice_get flags i ≡ Some false

-- a publish of operation j by worker w, behind these events
pub record Published : Type 0 where
  pub wires : List Wire
  pub events : List Event
  pub worker : ℕ
  pub op : ℕ

abbrev pub published : List Wire → List Event → (worker op : ℕ) → Published
published wires events worker op = record { wires = wires; events = events; worker = worker; op = op }

-- The flags after a publish. Those of operations whose places at or above the bound don't read its operation may still be
-- as before.
pub record OpensFrom (p : Published) (bound : ℕ) (flags : List Bool) : Type 0 where
  pub all : length flags ≡ length p.wires
  pub each : (i : ℕ) → i < length p.wires
      → (slice_get flags i ≡ Some (is_open p.wires (Publish p.worker p.op ∷ p.events) i))
      ⊎ ((slice_get flags i ≡ Some (is_open p.wires p.events i)) × ((q : ℕ) → bound ≤ q → q / 2 ≡ i → read_at p.wires q ≡ Some p.op → ⊥))

-- a walk down the readers of operation j: what it begins with
pub record Walk : Type 0 where
  pub wires : List Wire
  pub marks : List Mark
  pub op : ℕ
  pub before : List Bool

abbrev pub walk : List Wire → List Mark → ℕ → List Bool → Walk
walk wires marks op before = record { wires = wires; marks = marks; op = op; before = before }

-- where it stands
pub record Opening (k : Walk) (place : Option ℕ) (flags : List Bool) : Type 0 where
  pub reader : IsReaderOf k.wires k.op place
  pub all : length flags ≡ length k.wires
  pub opens : (budget workers w : ℕ) (h : List Event)
      → Legal (run_of k.wires budget workers (Publish w k.op ∷ h)) (Publish w k.op ∷ h)
      → MarksOf k.wires (Publish w k.op ∷ h) k.marks → FlagsOf k.wires h k.before
      → OpensFrom (published k.wires h w k.op) (bound_of place) flags
