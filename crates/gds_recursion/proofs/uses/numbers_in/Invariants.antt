use Rattle.std.proofs.Common.{◌↔◌, ℕ}
use Rattle.gds_reach.specs.References.{IsNamedBelow}
use Rattle.gds_recursion.specs.Working.Circles.{IsHeld}
use Rattle.gds_recursion.proofs.uses.numbers_in.Given as goal

abbrev pub invariant-loop-name : goal.invariant-loop-name
invariant-loop-name l = (j : ℕ) → IsHeld l.numbers.items j ↔ IsNamedBelow l.named l.name-index j
