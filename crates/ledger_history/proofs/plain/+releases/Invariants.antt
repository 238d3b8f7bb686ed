use Rattle.std.proofs.Common.{length}
use Rattle.ledger_history.proofs.plain.+releases.Given as goal

abbrev pub decreases-releases : goal.decreases-releases
decreases-releases l = length l.past.now
