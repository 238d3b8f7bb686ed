use Rattle.std.proofs.Common.{length}
use Rattle.edge_of_region.proofs.Sweeping.{IsSwept}
use Rattle.edge_of_region.proofs.downwards.sides.Given as goal

abbrev pub invariant-loop-left : goal.invariant-loop-left
invariant-loop-left l = IsSwept l.flips l.left l.all l.runs.items

abbrev pub decreases-loop-left : goal.decreases-loop-left
decreases-loop-left l = length l.left
