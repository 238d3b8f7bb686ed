-- These are working words: what stands in a state.
use Rattle.std.specs.Prelude.{◌≡◌, ℕ, ◌+◌, ◌<◌, if◌then◌else◌, List, length, Some, slice_get}
use Rattle.layer_model.specs.Wirings.{input, one_if_at, CountsReaders, IsWiring}
use Rattle.ledger_history.specs.declared.event.Event.{Event}
use Rattle.ledger_history.specs.Histories.{Setup, is_claimed, is_live}
use Rattle.ledger_history.specs.Enabled.{Legal}
use Rattle.ledger_history.specs.Totals.{sum_to}
use Rattle.ledger_table.specs.Ledgers.{Ledger}
use Rattle.ledger_core.specs.declared.condition.Condition.{Condition}
use Rattle.ledger_core.specs.Tokens.{Stock}
use Rattle.ledger_core.specs.Machines.{Fits}

-- the places of operation i that read operation j, while i isn't claimed
abbrev pub open_places : Setup → List Event → ℕ → ℕ → ℕ
open_places s h j i = if is_claimed h i then 0 else one_if_at (input s.wires i 0) j + one_if_at (input s.wires i 1) j

-- the places of unclaimed operations that read operation j
abbrev pub due : Setup → List Event → ℕ → ℕ
due s h j = sum_to (open_places s h j) (length s.wires)

-- the copies of the layer of operation j: none unless it is live; then one for the state, and one for each place to come
pub record StockOf (s : Setup) (h : List Event) (places : ℕ → ℕ) (j : ℕ) (x : Stock) : Type 0 where
  pub op : x.op ≡ j
  pub count : x.count ≡ (if is_live s h j then 1 + places j else 0)

pub record StocksWith (s : Setup) (h : List Event) (places : ℕ → ℕ) (stocks : List Stock) : Type 0 where
  pub all : length stocks ≡ length s.wires
  pub each : (j : ℕ) (x : Stock) → slice_get stocks j ≡ Some x → StockOf s h places j x

abbrev pub StocksOf : Setup → List Event → List Stock → Type 0
StocksOf s h stocks = StocksWith s h (due s h) stocks

-- each worker's condition fits the events
pub record CrewOf (s : Setup) (h : List Event) (crew : List Condition) : Type 0 where
  pub all : length crew ≡ s.workers
  pub each : (w : ℕ) (c : Condition) → slice_get crew w ≡ Some c → Fits s h w c

pub record IsState (s : Setup) (ledger : Ledger) (readers : List ℕ) (stocks : List Stock) (crew : List Condition) : Type 0 where
  pub wires : ledger.wires ≡ s.wires
  pub budget : ledger.budget ≡ s.budget
  pub workers : ledger.workers ≡ s.workers
  pub wiring : IsWiring s.wires
  pub legal : Legal s ledger.events
  pub counted : CountsReaders s.wires readers
  pub stocked : StocksOf s ledger.events stocks
  pub manned : CrewOf s ledger.events crew
