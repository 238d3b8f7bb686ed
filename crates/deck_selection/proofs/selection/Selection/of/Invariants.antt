-- What was noted, and what the statements that are left say, make the whole.
use Rattle.std.proofs.Common.{◌≡◌, ◌||◌, ℕ, List, drop}
use Rattle.std.specs.List.{flat_map, list_any}
use Rattle.deck_selection.specs.Selection.{is_named, is_select, selected_by, unselected_by}
use Rattle.deck_selection.specs.Working.NameSets.{has}
use Rattle.deck_selection.proofs.selection.Selection.of.Given as goal

abbrev pub invariant-loop-statement : goal.invariant-loop-statement
invariant-loop-statement l =
    ((l.selection.selects || list_any is_select (drop l.statement-index l.statements)) ≡ list_any is_select l.statements)
    × ((q : List ℕ) → (has l.selection.selected q || is_named q (flat_map selected_by (drop l.statement-index l.statements))) ≡ is_named q (flat_map selected_by l.statements))
    × ((q : List ℕ) → (has l.selection.unselected q || is_named q (flat_map unselected_by (drop l.statement-index l.statements))) ≡ is_named q (flat_map unselected_by l.statements))
