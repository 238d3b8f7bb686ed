-- Wirings: which operations read which. An operation is named by its number, which is its place in the list of wires.
-- Its input places are 0 and 1, or 0 alone, or none.
use Rattle.std.specs.Prelude.{◌≡◌, ◌⊎◌, ℕ, ◌+◌, ◌<◌, ◌^◌, Bool, true, false, ◌==◌, if◌then◌else◌, List, length, Option, None, Some, slice_get, slice_index, sum_by, zero, suc}
use Rattle.layer_model.specs.declared.wiring.Wire.{Wire}

-- the operation that a wire reads at place k
abbrev pub place_of : Wire → ℕ → Option ℕ
place_of w zero = w.first
place_of w (suc zero) = w.second
place_of w (suc (suc k)) = None

abbrev pub input_from : Option Wire → ℕ → Option ℕ
input_from None k = None
input_from (Some w) k = place_of w k

-- the input of operation i at place k
abbrev pub input : List Wire → ℕ → ℕ → Option ℕ
input ws i k = input_from (slice_get ws i) k

abbrev pub reported_from : Option Wire → Bool
reported_from None = false
reported_from (Some w) = w.reported

-- whether operation i is reported
abbrev pub is_reported : List Wire → ℕ → Bool
is_reported ws i = reported_from (slice_get ws i)

abbrev pub one_if_some : Option ℕ → ℕ
one_if_some None = 0
one_if_some (Some j) = 1

-- how many input places operation i has
abbrev pub input_count : List Wire → ℕ → ℕ
input_count ws i = one_if_some (input ws i 0) + one_if_some (input ws i 1)

abbrev pub one_if_at : Option ℕ → ℕ → ℕ
one_if_at None j = 0
one_if_at (Some m) j = if m == j then 1 else 0

-- how many places of a wire read operation j
abbrev pub reads : Wire → ℕ → ℕ
reads w j = one_if_at w.first j + one_if_at w.second j

-- how many places read operation j
abbrev pub reader_count : List Wire → ℕ → ℕ
reader_count ws j = sum_by (λ w. reads w j) ws

-- The form of a wiring: there are fewer than 2 ^ 32 operations, each reads lower ones alone, place 1 stands only beside
-- place 0, and each operation is reported or read.
pub record IsWiring (ws : List Wire) : Type 0 where
  pub few : length ws < 2 ^ 32
  pub lower : (i k j : ℕ) → input ws i k ≡ Some j → j < i
  pub in_order : (i : ℕ) → input ws i 0 ≡ None → input ws i 1 ≡ None
  pub used : (i : ℕ) → i < length ws → (is_reported ws i ≡ true) ⊎ (0 < reader_count ws i)

-- how many places read each operation, by operation
pub record CountsReaders (ws : List Wire) (counts : List ℕ) : Type 0 where
  pub all : length counts ≡ length ws
  pub count : (j : ℕ) → j < length ws → slice_index counts j ≡ reader_count ws j
