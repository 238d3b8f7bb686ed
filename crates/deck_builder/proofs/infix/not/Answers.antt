use Rattle.std.proofs.Common.{sym, subst}
use Rattle.deck_tree.specs.declared.infix.Infix.{Infix}
use Rattle.deck_grammar.specs.Rules as r
use Rattle.deck_cursor.specs.Steps.{Reads}
use Rattle.deck_builder.specs.Relations.{placed}
use Rattle.deck_builder.proofs.InfixRules.{as_not_infix}
use Rattle.deck_builder.proofs.infix.not.Goals as goal

pub returns-in_ok-related : goal.returns-in_ok-related
returns-in_ok-related c =
    let P : Infix → Type 0 = λ it. Reads r.infix_operation c.args.cursor.now c.relation.new.cursor (placed c.in_ok-at.at it) in
    subst P (sym c.infix_of.ensures)
    (as_not_infix c.args.cursor.now c.word.new.cursor c.relation.new.cursor c.in_ok-related.field-0-0 c.in_ok-related.related c.in_ok-at.ensures c.in_ok-related.ensures)
