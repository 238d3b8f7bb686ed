use Rattle.std.proofs.Common.{◌≡◌, ℕ, ◌<◌, true}
use Rattle.ledger_history.specs.Histories.{is_finished}
use Rattle.ledger_history.specs.Lists.{setup_of}
use Rattle.ledger_history.proofs.allowed.all_finished_below.Given as goal

abbrev pub invariant-loop-lower : goal.invariant-loop-lower
invariant-loop-lower l = (j : ℕ) → j < l.lower → is_finished (setup_of l.setup) l.past j ≡ true
