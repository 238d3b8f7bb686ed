use Rattle.std.proofs.Common.{◌<◌, ℕ}
use Rattle.gds_recursion.specs.Working.Circles.{NamesFlagged}
use Rattle.gds_recursion.proofs.back.first_flagged.Given as goal

abbrev pub invariant-loop-place : goal.invariant-loop-place
invariant-loop-place l = (place : ℕ) → place < l.place → NamesFlagged l.named l.flags place → ⊥
