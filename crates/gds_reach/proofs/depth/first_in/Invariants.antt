use Rattle.std.proofs.Common.{◌<◌}
use Rattle.gds_reach.specs.declared.reference.Reference.{Reference}
use Rattle.gds_reach.specs.Working.Depths.{StandsIn}
use Rattle.gds_reach.proofs.depth.first_in.Given as goal

abbrev pub invariant-loop-structure : goal.invariant-loop-structure
invariant-loop-structure l = (r : Reference) → r.structure < l.structure → StandsIn l.links l.flags r → ⊥
