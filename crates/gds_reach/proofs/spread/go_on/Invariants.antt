use Rattle.gds_reach.specs.Working.Spreading.{IsSpread, work}
use Rattle.gds_reach.proofs.spread.go_on.Given as goal

abbrev pub invariant-loop-flags : goal.invariant-loop-flags
invariant-loop-flags l = IsSpread l.links l.initial.flags l.flags l.waiting.items

abbrev pub decreases-loop-flags : goal.decreases-loop-flags
decreases-loop-flags l = work l.flags l.waiting.items
