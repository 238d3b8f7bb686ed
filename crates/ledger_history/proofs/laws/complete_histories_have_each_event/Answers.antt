use Rattle.ledger_history.proofs.Counts.{complete_claims, complete_charges, complete_publishes, complete_releases, complete_lives}
use Rattle.ledger_history.proofs.laws.complete_histories_have_each_event.Goals as goal

pub returns : goal.returns
returns c = record { claims = complete_claims; charges = complete_charges; publishes = complete_publishes; releases = complete_releases; live = complete_lives }
