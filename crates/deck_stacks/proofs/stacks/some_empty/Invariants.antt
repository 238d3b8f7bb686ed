use Rattle.std.proofs.Common.{◌≡◌, length}
use Rattle.deck_stacks.specs.Working.Opening.{some_empty}
use Rattle.deck_stacks.proofs.stacks.some_empty.Given as goal

abbrev pub invariant-loop-left : goal.invariant-loop-left
invariant-loop-left l = some_empty l.left ≡ some_empty l.all

abbrev pub decreases-loop-left : goal.decreases-loop-left
decreases-loop-left l = length l.left
