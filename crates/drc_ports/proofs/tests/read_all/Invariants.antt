use Rattle.std.proofs.Common.{IsTrue}
use Rattle.drc_ports.proofs.tests.read_all.Given as goal

abbrev pub invariant-reads : goal.invariant-reads
invariant-reads g l = IsTrue (g.F.Files.tally l.files).started
