use Rattle.std.proofs.Common.{◌<◌, ℕ}
use Rattle.gds_reach.specs.References.{IsNamedBelow}
use Rattle.gds_reach.proofs.within.all_below.Given as goal

abbrev pub invariant-loop-name : goal.invariant-loop-name
invariant-loop-name l = (j : ℕ) → IsNamedBelow l.named l.name-index j → j < l.bound
