-- The names before are known; and the facts that were pushed, and those of the names that are left, make the whole.
use Rattle.std.proofs.Common.{◌≡◌, ◌++◌, ℕ, List, [], take, drop}
use Rattle.deck_selection.specs.Selection.{is_named}
use Rattle.deck_selection.specs.CheckNames.{repeated}
use Rattle.deck_selection.specs.Working.NameSets.{has, names_shown}
use Rattle.deck_selection.proofs.check_names.push_repeated.Given as goal

abbrev pub invariant-loop-name : goal.invariant-loop-name
invariant-loop-name l =
    (l.facts.items ++ repeated (take l.name-index (names_shown l.names)) (drop l.name-index (names_shown l.names))
    ≡ l.initial.facts.items ++ repeated [] (names_shown l.names))
    × ((q : List ℕ) → has l.known q ≡ is_named q (take l.name-index (names_shown l.names)))
