-- The facts that were pushed, and those of the names that are left, make the whole.
use Rattle.std.proofs.Common.{◌≡◌, ◌++◌, drop}
use Rattle.std.specs.List.{flat_map}
use Rattle.deck_selection.specs.Working.NameSets.{unknown_to}
use Rattle.deck_selection.proofs.check_names.push_unknown_names.Given as goal

abbrev pub invariant-loop-name : goal.invariant-loop-name
invariant-loop-name l =
    l.facts.items ++ flat_map (unknown_to l.known) (drop l.name-index l.names)
    ≡ l.initial.facts.items ++ flat_map (unknown_to l.known) l.names
