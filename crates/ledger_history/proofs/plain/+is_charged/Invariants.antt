use Rattle.std.proofs.Common.{length}
use Rattle.ledger_history.proofs.plain.+is_charged.Given as goal

abbrev pub decreases-is_charged : goal.decreases-is_charged
decreases-is_charged l = length l.past.now
