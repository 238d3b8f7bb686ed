-- The checks that were opened, and those that are left, make all; and no more were opened than statements came.
use Rattle.std.proofs.Common.{◌≡◌, ◌≤◌, ◌+◌, drop, length}
use Rattle.std.specs.List.{flat_map}
use Rattle.deck_counts.specs.Outputs.{statement_checks}
use Rattle.deck_graph.proofs.naming.open_checks.Given as goal

abbrev pub invariant-loop-statement : goal.invariant-loop-statement
invariant-loop-statement l =
    (l.names.checks + length (flat_map statement_checks (drop l.statement-index l.statements))
    ≡ l.initial.names.checks + length (flat_map statement_checks l.statements))
    × (l.names.checks ≤ l.initial.names.checks + l.statement-index)
    × (l.names.definitions ≡ l.initial.names.definitions)
