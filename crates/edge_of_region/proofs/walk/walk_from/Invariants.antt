use Rattle.std.proofs.Common.{◌≡◌, ◌++◌, drop}
use Rattle.edge_of_region.specs.Working.Walks.{below_from, sides_from}
use Rattle.edge_of_region.proofs.walk.walk_from.Given as goal

abbrev pub invariant-loop-upright : goal.invariant-loop-upright
invariant-loop-upright l =
    (l.below.items ++ below_from l.flip l.pen.at l.pen.inside (drop l.upright-index l.above) ≡ l.fn.below.items ++ below_from l.flip l.fn.start.at l.fn.start.inside l.above)
    × (l.sides.items ++ sides_from l.flip l.pen.at l.pen.inside (drop l.upright-index l.above) ≡ l.fn.sides.items ++ sides_from l.flip l.fn.start.at l.fn.start.inside l.above)
