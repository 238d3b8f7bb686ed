use Rattle.ledger_history.proofs.Charges.{charge_is_admitted}
use Rattle.ledger_history.proofs.laws.charges_are_admitted.Goals as goal

pub returns : goal.returns
returns c = charge_is_admitted
