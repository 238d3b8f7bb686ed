-- The checks that were found, and those that are left, make all.
use Rattle.std.proofs.Common.{◌≡◌, ◌++◌, drop}
use Rattle.std.specs.List.{flat_map}
use Rattle.deck_naming.specs.Undefined.{checked, shown_items}
use Rattle.deck_naming.proofs.outputs.items_of_checks.Given as goal

abbrev pub invariant-loop-statement : goal.invariant-loop-statement
invariant-loop-statement l =
    shown_items l.checks.items ++ flat_map checked (drop l.statement-index l.statements) ≡ flat_map checked l.statements
