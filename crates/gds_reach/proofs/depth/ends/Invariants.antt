use Rattle.gds_reach.specs.References.{Tell}
use Rattle.gds_reach.specs.Facts.{ReachesBy}
use Rattle.gds_reach.proofs.depth.ends.Given as goal

abbrev pub invariant-loop-done : goal.invariant-loop-done
invariant-loop-done l = Tell l.links (ReachesBy l.links l._done l.from) l.flags.items
