use Rattle.std.proofs.Common.{length}
use Rattle.deck_order.specs.Working.Walks.{IsJoining}
use Rattle.deck_order.proofs.look.join.Given as goal

abbrev pub invariant-loop-bound : goal.invariant-loop-bound
invariant-loop-bound l = IsJoining l.at l.initial.bounds.items l.bounds.items

abbrev pub decreases-loop-bound : goal.decreases-loop-bound
decreases-loop-bound l = length l.bounds.items
