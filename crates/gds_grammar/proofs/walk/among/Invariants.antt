use Rattle.std.proofs.Common.{◌≡◌, length}
use Rattle.gds_grammar.specs.Working.Exits.{chosen}
use Rattle.gds_grammar.proofs.walk.among.Given as goal

abbrev pub invariant-loop-ways : goal.invariant-loop-ways
invariant-loop-ways l = chosen l.kind l.ways ≡ chosen l.kind l.initial.ways

abbrev pub decreases-loop-ways : goal.decreases-loop-ways
decreases-loop-ways l = length l.ways
