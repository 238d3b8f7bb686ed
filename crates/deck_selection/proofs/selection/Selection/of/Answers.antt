use Rattle.std.proofs.Common.{◌≡◌, ◌+◌, ◌∷◌, drop, sym, ap, ◌∙◌}
use Rattle.std.proofs.lemmas.List.{drop_more}
use Rattle.deck_selection.specs.Selection.{is_select, selected_by, unselected_by, is_named}
use Rattle.deck_selection.specs.Working.NameSets.{has}
use Rattle.std.specs.List.{flat_map, list_any}
use Rattle.deck_selection.proofs.Noting.{flag_more, names_more}
use Rattle.deck_selection.proofs.selection.Selection.of.Goals as goal

pub loop-statement-preserved : goal.loop-statement-preserved
loop-statement-preserved c =
    let i = c.loop-statement.statement-index in
    let xs = c.args.statements.now in
    let rest = drop (i + 1) xs in
    let x = c.statement-item.result in
    let more : drop i xs ≡ x ∷ rest = drop_more xs i x c.loop-statement-test.true ∙ ap (λ p. p ∷ rest) (sym c.statement-item.is) in
    let old = c.loop-statement.selection in
    let new = c.note.new.self in (
      flag_more is_select (drop i xs) rest x old.selects new.selects (list_any is_select xs) more c.in_ok-note.ensures.selects c.loop-statement.invariant.0,
      λ q. names_more selected_by q (drop i xs) rest x (has old.selected q) (has new.selected q) (is_named q (flat_map selected_by xs)) more (c.in_ok-note.ensures.selected q) (c.loop-statement.invariant.1 q),
      λ q. names_more unselected_by q (drop i xs) rest x (has old.unselected q) (has new.unselected q) (is_named q (flat_map unselected_by xs)) more (c.in_ok-note.ensures.unselected q) (c.loop-statement.invariant.2 q),
    )
