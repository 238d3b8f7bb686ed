use Rattle.std.proofs.Common.{◌≡◌, ◌++◌, length}
use Rattle.region_turn.specs.Working.Corners.{flips_between}
use Rattle.region_turn.proofs.turning.flips_between.Given as goal

abbrev pub invariant-loop-left : goal.invariant-loop-left
invariant-loop-left l = l.flips.items ++ flips_between l.left ≡ flips_between l.corners

abbrev pub decreases-loop-left : goal.decreases-loop-left
decreases-loop-left l = length l.left
