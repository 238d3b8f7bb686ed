use Rattle.std.proofs.Common.{refl, subst}
use Rattle.deck_grammar.specs.Rules as r
use Rattle.deck_cursor.specs.Places.{Place}
use Rattle.deck_cursor.specs.Steps.{Reads}
use Rattle.deck_builder.proofs.builder.build.Goals as goal

pub returns-then-is_at_end : goal.returns-then-is_at_end
returns-then-is_at_end c =
    let P : Place → Type 0 = λ from. Reads r.statements from c.statements.new.cursor c.in_ok-all.all in
    c.steps_are_a_deck.ensures c.args.text.now c.statements.new.cursor c.in_ok-all.all (subst P c.new-cursor.ensures c.in_ok-all.ensures)
    (c.if-is_at_end.ensures.0 refl)
