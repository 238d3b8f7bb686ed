use Rattle.std.proofs.Common.{length}
use Rattle.ledger_history.proofs.plain.+charges_in.Given as goal

abbrev pub decreases-charges_in : goal.decreases-charges_in
decreases-charges_in l = length l.past.now
