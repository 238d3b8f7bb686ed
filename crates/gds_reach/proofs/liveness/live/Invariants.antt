use Rattle.std.proofs.Common.{◌≡◌, length}
use Rattle.gds_reach.specs.Working.Turning.{AreLive}
use Rattle.gds_reach.proofs.liveness.live.Given as goal

abbrev pub invariant-loop-structure : goal.invariant-loop-structure
invariant-loop-structure l = (length l.flags.items ≡ length l.links) × AreLive l.turned.items l.drawn l.structure l.flags.items
