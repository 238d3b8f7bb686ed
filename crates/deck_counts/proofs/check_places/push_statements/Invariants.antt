-- The places that were pushed, and those that are left, make the whole.
use Rattle.std.proofs.Common.{◌≡◌, ◌++◌, drop}
use Rattle.std.specs.List.{flat_map}
use Rattle.deck_counts.specs.Outputs.{statement_checks}
use Rattle.deck_counts.proofs.check_places.push_statements.Given as goal

abbrev pub invariant-loop-statement : goal.invariant-loop-statement
invariant-loop-statement l =
    l.places.items ++ flat_map statement_checks (drop l.statement-index l.statements)
    ≡ l.initial.places.items ++ flat_map statement_checks l.statements
