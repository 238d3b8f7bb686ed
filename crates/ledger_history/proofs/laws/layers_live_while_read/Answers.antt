use Rattle.ledger_history.proofs.Lives.{live_while_read, let_go_by_return, last_return_lets_go}
use Rattle.ledger_history.proofs.laws.layers_live_while_read.Goals as goal

pub returns : goal.returns
returns c = record { live = live_while_read; by_return = let_go_by_return; at_last_return = last_return_lets_go }
