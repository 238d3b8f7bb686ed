-- The checks that were pushed, and those of the statements that are left, make the whole; and no more checks came than
-- statements.
use Rattle.std.proofs.Common.{◌≡◌, ◌≤◌, ◌++◌, drop}
use Rattle.std.specs.List.{filter}
use Rattle.deck_selection.specs.Selection.{shown, checks_from}
use Rattle.deck_selection.specs.Working.NameSets.{passes}
use Rattle.deck_selection.proofs.selected.push_checks.Given as goal

abbrev pub invariant-loop-statement : goal.invariant-loop-statement
invariant-loop-statement l =
    (shown l.found.items ++ filter (passes l.selection) (checks_from l.number (drop l.statement-index l.statements))
    ≡ shown l.initial.found.items ++ filter (passes l.selection) (checks_from 0 l.statements))
    × (l.number ≤ l.statement-index)
