use Rattle.std.proofs.Common.{◌≡◌, length}
use Rattle.deck_order.specs.Working.Walks.{stage_of, IsWalk, left_to_look}
use Rattle.deck_order.proofs.look.look.Given as goal

abbrev pub invariant-loop-used : goal.invariant-loop-used
invariant-loop-used l =
    IsWalk l.uses (stage_of l.walk)
    × (l.walk.marks.items ≡ l.initial.walk.marks.items)
    × (length l.walk.path.items ≡ length l.initial.walk.path.items)

abbrev pub decreases-loop-used : goal.decreases-loop-used
decreases-loop-used l = left_to_look l.uses l.walk.path.items
