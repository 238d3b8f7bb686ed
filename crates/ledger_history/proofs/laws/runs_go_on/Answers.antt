use Rattle.ledger_history.proofs.Goings.{can_go_on}
use Rattle.ledger_history.proofs.laws.runs_go_on.Goals as goal

pub returns : goal.returns
returns c = can_go_on
