use Rattle.std.proofs.Common.{sym, subst}
use Rattle.deck_tree.specs.declared.infix.Infix.{Infix}
use Rattle.deck_grammar.specs.Rules as r
use Rattle.deck_cursor.specs.Steps.{Reads}
use Rattle.deck_builder.specs.Relations.{placed}
use Rattle.deck_builder.proofs.InfixRules.{as_infix}
use Rattle.deck_builder.proofs.infix.infix.Goals as goal

pub returns-in_ok-at-in_default : goal.returns-in_ok-at-in_default
returns-in_ok-at-in_default c =
    let P : Infix → Type 0 = λ it. Reads r.infix_operation c.args.cursor.now c.relation.new.cursor (placed c.in_ok-at-in_default.at it) in
    subst P (sym c.infix_of.ensures)
    (as_infix c.args.cursor.now c.relation.new.cursor c.in_ok-at-in_default.at c.in_ok-at-in_default.related c.in_ok-at-in_default.ensures)
