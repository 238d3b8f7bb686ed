-- The facts that were pushed, and those of the statements that are left, make the whole.
use Rattle.std.proofs.Common.{◌≡◌, ◌++◌, drop}
use Rattle.std.specs.List.{flat_map}
use Rattle.deck_selection.specs.CheckNames.{picked_by}
use Rattle.deck_selection.specs.Working.NameSets.{unknown_to}
use Rattle.deck_selection.proofs.check_names.push_unknown.Given as goal

abbrev pub invariant-loop-statement : goal.invariant-loop-statement
invariant-loop-statement l =
    l.facts.items ++ flat_map (unknown_to l.known) (flat_map picked_by (drop l.statement-index l.statements))
    ≡ l.initial.facts.items ++ flat_map (unknown_to l.known) (flat_map picked_by l.statements)
