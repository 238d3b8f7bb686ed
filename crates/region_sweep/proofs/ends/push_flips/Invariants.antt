use Rattle.std.proofs.Common.{◌≡◌, ◌++◌, length}
use Rattle.region_sweep.specs.Working.Ends.{flips_of}
use Rattle.region_sweep.proofs.ends.push_flips.Given as goal

abbrev pub invariant-loop-left : goal.invariant-loop-left
invariant-loop-left l = l.flips.items ++ flips_of l.line l.left ≡ l.fn.flips.items ++ flips_of l.line l.ends

abbrev pub decreases-loop-left : goal.decreases-loop-left
decreases-loop-left l = length l.left
