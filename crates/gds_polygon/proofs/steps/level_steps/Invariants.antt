use Rattle.std.proofs.Common.{◌≡◌, ◌∷◌, ◌++◌, drop}
use Rattle.gds_polygon.specs.Working.Steps.{steps_of}
use Rattle.gds_polygon.proofs.steps.level_steps.Given as goal

abbrev pub invariant-loop-b : goal.invariant-loop-b
invariant-loop-b l = l.steps.items ++ steps_of l.east (l.a ∷ drop l.b-index l.more) ≡ steps_of l.east l.points
