use Rattle.deck_round.proofs.Accepted.{accepted}
use Rattle.deck_round.proofs.Formed.{accepted_again}
use Rattle.deck_round.proofs.laws.canonical_text_is_accepted.Goals as goal

pub returns-clause-complete : goal.returns-clause-complete
returns-clause-complete c = accepted

pub returns-clause-again : goal.returns-clause-again
returns-clause-again c = accepted_again
