-- Counts that never fall. A count stands still at its end, 2^64 - 1.
use Rattle.std.specs.Prelude.{◌≡◌, ℕ, ◌+◌, ◌-◌, ◌^◌, ◌≤◌, min}

-- one more
abbrev pub one_more : ℕ → ℕ
one_more count = min (count + 1) (2 ^ 64 - 1)

-- the count is greater than before, or stands at its end
abbrev pub Rose : (before now : ℕ) → Type 0
Rose before now = min (before + 1) (2 ^ 64 - 1) ≤ now

-- the count is greater by this much, or stands at its end
abbrev pub RoseBy : (much before now : ℕ) → Type 0
RoseBy much before now = now ≡ min (before + much) (2 ^ 64 - 1)
