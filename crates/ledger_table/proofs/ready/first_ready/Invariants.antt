use Rattle.ledger_table.specs.Working.Openings.{StartsTo}
use Rattle.ledger_table.proofs.ready.first_ready.Given as goal

abbrev pub invariant-loop-op : goal.invariant-loop-op
invariant-loop-op l = StartsTo l.wires l.op l.ready
