-- The names that were added, and those that are left, make the whole.
use Rattle.std.proofs.Common.{◌≡◌, ◌||◌, ℕ, List, drop}
use Rattle.deck_selection.specs.Selection.{is_named}
use Rattle.deck_selection.specs.Working.NameSets.{has}
use Rattle.deck_selection.proofs.name_set.NameSet.add_all.Given as goal

abbrev pub invariant-loop-name : goal.invariant-loop-name
invariant-loop-name l =
    (q : List ℕ) → (has l.self q || is_named q (drop l.name-index l.names)) ≡ (has l.initial.self q || is_named q l.names)
