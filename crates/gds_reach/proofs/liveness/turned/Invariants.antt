use Rattle.std.proofs.Common.{◌≡◌, length}
use Rattle.gds_reach.specs.Working.Turning.{AreTurned}
use Rattle.gds_reach.proofs.liveness.turned.Given as goal

abbrev pub invariant-loop-structure : goal.invariant-loop-structure
invariant-loop-structure l = (length l.turned.items ≡ length l.links) × AreTurned l.links l.structure l.turned.items
