-- These are working words: marks: what a history says of one operation.
use Rattle.std.specs.Prelude.{◌≡◌, ℕ, ◌+◌, false, List, length, Some, slice_get}
use Rattle.layer_model.specs.declared.wiring.Wire.{Wire}
use Rattle.layer_model.specs.Wirings.{reader_count}
use Rattle.ledger_history.specs.declared.event.Event.{Event}
use Rattle.ledger_history.specs.Histories.{Setup, is_claimed, is_charged, is_published, releases, returns}
use Rattle.ledger_table.specs.declared.mark.Mark.{Mark}
use Rattle.ledger_table.specs.Ledgers.{charged_cost}

-- what a history says of layers and workers needs the wires alone
abbrev pub wired : List Wire → Setup
wired ws = record { wires = ws; cost = λ _. 0; budget = 0; workers = 0 }

-- what is fixed for a run, with the costs of its own charges
abbrev pub run_of : List Wire → ℕ → ℕ → List Event → Setup
run_of ws budget workers h = record { wires = ws; cost = charged_cost h; budget = budget; workers = workers }

-- the mark where nothing has happened, and so many readers' places are out
abbrev pub fresh : ℕ → Mark
fresh n = record { claimed = false; charged = false; published = false; released = 0; left = n; cost = 0 }

-- the mark of operation i after the history, where `back` says how many readers of each operation are back
pub record MarkOf (ws : List Wire) (h : List Event) (back : ℕ → ℕ) (i : ℕ) (m : Mark) : Type 0 where
  pub claimed : m.claimed ≡ is_claimed h i
  pub charged : m.charged ≡ is_charged h i
  pub published : m.published ≡ is_published h i
  pub released : m.released ≡ releases h i
  pub left : m.left + back i ≡ reader_count ws i
  pub cost : m.cost ≡ charged_cost h i

pub record MarksWith (ws : List Wire) (h : List Event) (back : ℕ → ℕ) (marks : List Mark) : Type 0 where
  pub all : length marks ≡ length ws
  pub each : (i : ℕ) (m : Mark) → slice_get marks i ≡ Some m → MarkOf ws h back i m

-- the marks of all operations
abbrev pub MarksOf : List Wire → List Event → List Mark → Type 0
MarksOf ws h marks = MarksWith ws h (λ j. returns (wired ws) h j) marks
