use Rattle.std.proofs.Common.{◌≡◌, length}
use Rattle.deck_stacks.specs.Working.Opening.{each_empty}
use Rattle.deck_stacks.proofs.stack.each_empty.Given as goal

abbrev pub invariant-loop-left : goal.invariant-loop-left
invariant-loop-left l = each_empty l.left ≡ each_empty l.parts

abbrev pub decreases-loop-left : goal.decreases-loop-left
decreases-loop-left l = length l.left
