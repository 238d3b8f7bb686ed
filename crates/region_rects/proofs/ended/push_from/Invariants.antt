use Rattle.std.proofs.Common.{◌≡◌, ◌++◌, drop}
use Rattle.region_rects.specs.Working.Joins.{joined_from}
use Rattle.region_rects.specs.Working.Stretches.{ended}
use Rattle.region_rects.proofs.ended.push_from.Given as goal

abbrev pub invariant-loop-piece : goal.invariant-loop-piece
invariant-loop-piece l =
    l.rects.items ++ ended l.line (joined_from l.begun (drop l.piece-index l.behind)) ≡ l.fn.rects.items ++ ended l.line (joined_from l.fn.begun l.behind)
