use Rattle.std.proofs.Common.{◌*◌, ◌+◌, length}
use Rattle.deck_order.specs.Working.Walks.{stage_of, GoesOn, IsWalk, unseen}
use Rattle.deck_order.proofs.listing.go_on.Given as goal

abbrev pub invariant-loop-walk : goal.invariant-loop-walk
invariant-loop-walk l = IsWalk l.uses (stage_of l.walk) × GoesOn l.initial.walk.marks.items l.walk.marks.items

abbrev pub decreases-loop-walk : goal.decreases-loop-walk
decreases-loop-walk l = 2 * unseen l.walk.marks.items + length l.walk.path.items
