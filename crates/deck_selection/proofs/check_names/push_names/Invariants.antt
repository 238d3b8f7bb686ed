-- The names that were pushed, and those of the checks that are left, make the whole.
use Rattle.std.proofs.Common.{◌≡◌, ◌++◌, drop}
use Rattle.std.specs.List.{flat_map}
use Rattle.deck_selection.specs.CheckNames.{checked_by}
use Rattle.deck_selection.specs.Working.NameSets.{names_shown}
use Rattle.deck_selection.proofs.check_names.push_names.Given as goal

abbrev pub invariant-loop-statement : goal.invariant-loop-statement
invariant-loop-statement l =
    names_shown l.names.items ++ flat_map checked_by (drop l.statement-index l.statements)
    ≡ names_shown l.initial.names.items ++ flat_map checked_by l.statements
