use Rattle.ledger_history.proofs.Counts.{length_fits, stops_once, stops_fit}
use Rattle.ledger_history.proofs.laws.histories_are_short.Goals as goal

pub returns : goal.returns
returns c = record { length = length_fits; once = λ s h w l. (stops_once s h w l).0; stops = stops_fit }
