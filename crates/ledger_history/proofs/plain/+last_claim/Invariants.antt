use Rattle.std.proofs.Common.{length}
use Rattle.ledger_history.proofs.plain.+last_claim.Given as goal

abbrev pub decreases-last_claim : goal.decreases-last_claim
decreases-last_claim l = length l.past.now
