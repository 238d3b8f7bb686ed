use Rattle.std.proofs.Common.{ℕ, ◌+◌, ◌-◌, ◌≤◌, length, drop}
use Rattle.deck_lexer.specs.Working.Gaps.{Passes}
use Rattle.deck_lexer.proofs.gap.gap_len.Given as goal

abbrev pub invariant-loop-len : goal.invariant-loop-len
invariant-loop-len l = (l.len ≤ length l.bytes) × ((n : ℕ) → Passes (drop l.len l.bytes) n → Passes l.bytes (l.len + n))

abbrev pub decreases-loop-len : goal.decreases-loop-len
decreases-loop-len l = length l.bytes - l.len
