use Rattle.std.proofs.Common.{length}
use Rattle.ledger_history.proofs.plain.+is_claimed.Given as goal

abbrev pub decreases-is_claimed : goal.decreases-is_claimed
decreases-is_claimed l = length l.past.now
