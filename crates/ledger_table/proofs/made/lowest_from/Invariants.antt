use Rattle.std.proofs.Common.{ℕ, List}
use Rattle.ledger_history.specs.declared.event.Event.{Event}
use Rattle.ledger_history.specs.Enabled.{Legal, AllFinishedBelow}
use Rattle.ledger_table.specs.Marks.{MarksOf, wired, run_of}
use Rattle.ledger_table.proofs.made.lowest_from.Given as goal

abbrev pub invariant-loop-op : goal.invariant-loop-op
invariant-loop-op l = (budget workers : ℕ) (h : List Event) → MarksOf l.wires h l.marks → Legal (run_of l.wires budget workers h) h → AllFinishedBelow (wired l.wires) h l.from → AllFinishedBelow (wired l.wires) h l.op
