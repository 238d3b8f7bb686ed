-- The facts that were pushed, and those that are left, make the whole.
use Rattle.std.proofs.Common.{◌≡◌, ◌++◌, drop}
use Rattle.deck_naming.specs.Undefined.{of_checks, shown_items}
use Rattle.deck_naming.proofs.outputs.push_checks.Given as goal

abbrev pub invariant-loop-number : goal.invariant-loop-number
invariant-loop-number l =
    l.facts.items ++ of_checks l.graph.definitions l.number (shown_items (drop l.number l.checks.items))
    ≡ l.initial.facts.items ++ of_checks l.graph.definitions 0 (shown_items l.checks.items)
