use Rattle.std.proofs.Common.{◌≡◌, length}
use Rattle.gds_recursion.specs.Working.Circles.{AreUses}
use Rattle.gds_recursion.proofs.uses.uses_of.Given as goal

abbrev pub invariant-loop-named : goal.invariant-loop-named
invariant-loop-named l = (length l.uses.items ≡ l.named-index) × AreUses l.links l.named-index l.uses.items
