use Rattle.std.proofs.Common.{length}
use Rattle.ledger_history.proofs.plain.+is_published.Given as goal

abbrev pub decreases-is_published : goal.decreases-is_published
decreases-is_published l = length l.past.now
