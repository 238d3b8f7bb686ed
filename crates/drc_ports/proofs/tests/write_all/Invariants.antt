use Rattle.std.proofs.Common.{IsTrue, length}
use Rattle.drc_ports.proofs.tests.write_all.Given as goal

abbrev pub invariant-writes : goal.invariant-writes
invariant-writes g l = IsTrue (g.F.Files.tally l.files).writing

abbrev pub decreases-writes : goal.decreases-writes
decreases-writes g l = length l.rest
