use Rattle.std.proofs.Common.{length}
use Rattle.deck_order.specs.Working.Walks.{stage_of}
use Rattle.deck_order.specs.Working.Closing.{IsClosing}
use Rattle.deck_order.proofs.leave.close.Given as goal

abbrev pub invariant-loop-walk : goal.invariant-loop-walk
invariant-loop-walk l = IsClosing (stage_of l.initial.walk) l.at l.cyclic (stage_of l.walk)

abbrev pub decreases-loop-walk : goal.decreases-loop-walk
decreases-loop-walk l = length l.walk.pending.items
