-- How often an outline winds round the squares of a column: as often as it went east below them, less the times it went
-- west, in 64 bits.
use Rattle.std.specs.Prelude.{◌≡◌, ℕ, ◌+◌, ◌*◌, ◌%◌, ◌^◌, ◌-◌}
use Rattle.region_sweep.proofs.Remainders.{one_added, one_taken}

abbrev pub turns : (east west : ℕ) → ℕ
turns east west = (east + west * (2 ^ 64 - 1)) % 2 ^ 64

pub counts_east : (a b : ℕ) → (turns a b + 1) % 2 ^ 64 ≡ turns (a + 1) b
counts_east a b = one_added a b (2 ^ 64 - 1) (2 ^ 64)

pub counts_west : (a b : ℕ) → (turns a b + (2 ^ 64 - 1)) % 2 ^ 64 ≡ turns a (b + 1)
counts_west a b = one_taken a b (2 ^ 64 - 1) (2 ^ 64)
