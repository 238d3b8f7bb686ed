use Rattle.std.proofs.Common.{length}
use Rattle.drc_ports.proofs.tests.say_all.Given as goal

abbrev pub decreases-says : goal.decreases-says
decreases-says g l = length l.rest
