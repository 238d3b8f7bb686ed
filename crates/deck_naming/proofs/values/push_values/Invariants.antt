-- The facts that were pushed, and those that are left, make the whole.
use Rattle.std.proofs.Common.{◌≡◌, ◌++◌, drop}
use Rattle.std.specs.List.{flat_map}
use Rattle.deck_naming.specs.Undefined.{of_statement}
use Rattle.deck_naming.proofs.values.push_values.Given as goal

abbrev pub invariant-loop-statement : goal.invariant-loop-statement
invariant-loop-statement l =
    l.facts.items ++ flat_map (of_statement l.graph.definitions) (drop l.statement-index l.statements)
    ≡ l.initial.facts.items ++ flat_map (of_statement l.graph.definitions) l.statements
