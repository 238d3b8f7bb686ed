use Rattle.std.proofs.Common.{length}
use Rattle.ledger_history.proofs.plain.+returns.Given as goal

abbrev pub decreases-returns : goal.decreases-returns
decreases-returns l = length l.past.now
