use Rattle.std.proofs.Common.{◌<◌, ℕ, length}
use Rattle.gds_reach.specs.References.{Refers}
use Rattle.gds_reach.proofs.within.are_within.Given as goal

abbrev pub invariant-loop-named : goal.invariant-loop-named
invariant-loop-named l = (i j : ℕ) → i < l.named-index → Refers l.links i j → j < length l.links
