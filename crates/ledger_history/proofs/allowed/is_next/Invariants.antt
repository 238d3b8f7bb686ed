use Rattle.std.proofs.Common.{ℕ, ◌<◌}
use Rattle.ledger_history.specs.Enabled.{IsReady}
use Rattle.ledger_history.specs.Lists.{setup_of}
use Rattle.ledger_history.proofs.allowed.is_next.Given as goal

abbrev pub invariant-loop-lower : goal.invariant-loop-lower
invariant-loop-lower l = (j : ℕ) → j < l.lower → IsReady (setup_of l.setup) l.past j → ⊥
