-- How many rectangles cross a column: as many as have begun there, less those that have ended, in 64 bits.
use Rattle.std.specs.Prelude.{◌≡◌, ℕ, ◌+◌, ◌*◌, ◌%◌, ◌^◌, ◌-◌}
use Rattle.region_sweep.proofs.Remainders.{one_added, one_taken}

abbrev pub open_count : (begun ended : ℕ) → ℕ
open_count begun ended = (begun + ended * (2 ^ 64 - 1)) % 2 ^ 64

pub counts_begun : (a b : ℕ) → (open_count a b + 1) % 2 ^ 64 ≡ open_count (a + 1) b
counts_begun a b = one_added a b (2 ^ 64 - 1) (2 ^ 64)

pub counts_ended : (a b : ℕ) → (open_count a b + (2 ^ 64 - 1)) % 2 ^ 64 ≡ open_count a (b + 1)
counts_ended a b = one_taken a b (2 ^ 64 - 1) (2 ^ 64)
