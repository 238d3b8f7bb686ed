-- Places by number: place k of operation i is 2 * i + k. The places that read one operation are linked downwards.
use Rattle.std.specs.Prelude.{◌≡◌, ℕ, ◌+◌, ◌*◌, ◌/◌, ◌%◌, ◌<◌, List, length, Option, None, Some, slice_get}
use Rattle.layer_model.specs.declared.wiring.Wire.{Wire}
use Rattle.layer_model.specs.Wirings.{input}

-- the operation that a place reads
abbrev pub read_at : List Wire → ℕ → Option ℕ
read_at ws p = input ws (p / 2) (p % 2)

-- the greatest place below the bound that reads operation j, if there is one
abbrev pub IsLastBelow : List Wire → ℕ → ℕ → Option ℕ → Type 0
IsLastBelow ws j bound None = (p : ℕ) → p < bound → read_at ws p ≡ Some j → ⊥
IsLastBelow ws j bound (Some q) = (q < bound) × (read_at ws q ≡ Some j) × ((p : ℕ) → q < p → p < bound → read_at ws p ≡ Some j → ⊥)

-- the places below the bound are linked: each operation has its last reader, and each place the one before it
pub record AreLinked (ws : List Wire) (last earlier : List (Option ℕ)) (bound : ℕ) : Type 0 where
  pub lasts : length last ≡ length ws
  pub earliers : length earlier ≡ 2 * length ws
  pub last_reader : (j : ℕ) (o : Option ℕ) → slice_get last j ≡ Some o → IsLastBelow ws j bound o
  pub earlier_reader : (p j : ℕ) (o : Option ℕ) → p < bound → read_at ws p ≡ Some j → slice_get earlier p ≡ Some o → IsLastBelow ws j p o

-- the bound below which places come after this one on the way down
abbrev pub bound_of : Option ℕ → ℕ
bound_of None = 0
bound_of (Some q) = q + 1

-- a place on the way down reads the operation
abbrev pub IsReaderOf : List Wire → ℕ → Option ℕ → Type 0
IsReaderOf ws j None = Unit {0}
IsReaderOf ws j (Some q) = (q < 2 * length ws) × (read_at ws q ≡ Some j)
