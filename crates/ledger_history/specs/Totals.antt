-- Totals: what each operation adds to the total of a history, and the most that a run can need beyond its budget.
use Rattle.std.specs.Prelude.{◌≡◌, ℕ, ◌+◌, ◌<◌, max, Bool, false, not, ◌&&◌, ◌||◌, if◌then◌else◌, nat_lt, List, drop, zero, suc}
use Rattle.layer_model.specs.Wirings.{input_count, is_reported, reader_count}
use Rattle.ledger_history.specs.declared.event.Event.{Event}
use Rattle.ledger_history.specs.Histories.{Setup, operations, is_charged, is_finished, is_let_go}
use Rattle.ledger_history.specs.Enabled.{AllFinishedBelow}

-- f 0 + f 1 + .. + f (n - 1)
abbrev pub sum_to : (ℕ → ℕ) → ℕ → ℕ
sum_to f zero = 0
sum_to f (suc n) = sum_to f n + f n

-- what operation i adds to the total: its cost from its charge on, until its layer is let go
abbrev pub live_cost : Setup → List Event → ℕ → ℕ
live_cost s h i = if is_charged h i && not (is_let_go s h i) then s.cost i else 0

-- what the operations above i add
abbrev pub live_above : Setup → List Event → ℕ → ℕ
live_above s h i = sum_to (λ j. if nat_lt i j then live_cost s h j else 0) (operations s)

-- operation i is the lowest that isn't finished
pub record IsLowestUnfinished (s : Setup) (h : List Event) (i : ℕ) : Type 0 where
  pub there : i < operations s
  pub unfinished : is_finished s h i ≡ false
  pub below : AllFinishedBelow s h i

-- whether operation j, which is lower than i, is reported, or read by i or by a higher one
abbrev pub is_kept_for : Setup → ℕ → ℕ → Bool
is_kept_for s i j = is_reported s.wires j || nat_lt 0 (reader_count (drop i s.wires) j)

-- The solo cost of operation i: its own cost, and that of each lower one which has to stand while i is computed alone.
abbrev pub solo_cost : Setup → ℕ → ℕ
solo_cost s i = s.cost i + sum_to (λ j. if is_kept_for s i j then s.cost j else 0) i

-- the greatest of f 0, f 1, .., f (n - 1), and 0 where n is 0
abbrev pub greatest_to : (ℕ → ℕ) → ℕ → ℕ
greatest_to f zero = 0
greatest_to f (suc n) = max (greatest_to f n) (f n)

-- the greatest solo cost
abbrev pub greatest_solo : Setup → ℕ
greatest_solo s = greatest_to (solo_cost s) (operations s)

-- the number of input places of all operations
abbrev pub place_total : Setup → ℕ
place_total s = sum_to (input_count s.wires) (operations s)
