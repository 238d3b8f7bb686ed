use Rattle.ledger_history.proofs.Budgets.{above_fits, total_fits}
use Rattle.ledger_history.proofs.laws.budget_holds.Goals as goal

pub returns : goal.returns
returns c = record { above = λ s h m l q. above_fits s h m l q.below q.unfinished; total = total_fits }
