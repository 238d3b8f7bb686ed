use Rattle.ledger_history.proofs.Lives.{input_is_live}
use Rattle.ledger_history.proofs.laws.inputs_stay_live.Goals as goal

pub returns : goal.returns
returns c = input_is_live
