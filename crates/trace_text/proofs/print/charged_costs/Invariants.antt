-- The costs of the events so far.
use Rattle.std.proofs.Common.{◌≡◌, ◌<◌, ℕ, length, get_or, take}
use Rattle.ledger_record.specs.Records.{past_of}
use Rattle.trace_text.specs.Printed.{charged_cost}
use Rattle.trace_text.proofs.print.charged_costs.Given as goal

abbrev pub invariant-loop-event : goal.invariant-loop-event
invariant-loop-event l =
    (length l.costs.items ≡ l.operations) × ((i : ℕ) → i < l.operations → get_or l.costs.items i 0 ≡ charged_cost (past_of (take l.event-index l.events)) i)
