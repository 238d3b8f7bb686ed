use Rattle.std.proofs.Common.{◌+◌}
use Rattle.interval_row.specs.Working.Walk.{walk_of}
use Rattle.interval_row.proofs.Ends.{ends_left}
use Rattle.interval_row.proofs.Walks.{IsWalk}
use Rattle.interval_row.proofs.walk.combine.Given as goal

abbrev pub invariant-loop-at : goal.invariant-loop-at
invariant-loop-at l = IsWalk l.operation l.first l.second (walk_of l.a l.b l.pen)

abbrev pub decreases-loop-at : goal.decreases-loop-at
decreases-loop-at l = ends_left l.a.inside l.a.spans.now + ends_left l.b.inside l.b.spans.now
