-- What is pushed, and the lines of the costs that are left, make the whole.
use Rattle.std.proofs.Common.{◌≡◌, ◌++◌, drop}
use Rattle.trace_text.specs.Traces.{text_of, cost_lines}
use Rattle.trace_text.proofs.print.push_costs.Given as goal

abbrev pub invariant-loop-op : goal.invariant-loop-op
invariant-loop-op l = l.text.items ++ text_of (cost_lines l.op (drop l.op l.costs)) ≡ l.initial.text.items ++ text_of (cost_lines 0 l.costs)
