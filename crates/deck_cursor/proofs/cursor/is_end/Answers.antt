use Rattle.std.proofs.Common.{◌≡◌, ap, ◌∙◌, Ok, Err, None, Some, Option, Result}
use Rattle.deck_lexer.specs.declared.token.Token.{Token}
use Rattle.deck_lexer.specs.declared.token.LexFault.{LexFault}
use Rattle.deck_cursor.proofs.Within.{at_end, not_at_end, no_some, no_err}
use Rattle.deck_cursor.proofs.cursor.is_end.Goals as goal

pub returns-in-Ok-None : goal.returns-in-Ok-None
returns-in-Ok-None c = at_end c.args.text.now c.args.at c.next.result c.next.ensures (c.in-Ok-None.is ∙ ap Ok c.in-Ok-None.field-0-is)

pub returns-in-Ok-Some : goal.returns-in-Ok-Some
returns-in-Ok-Some c =
    not_at_end c.args.text.now c.args.at c.next.result _ c.next.ensures (c.in-Ok-Some.is ∙ ap Ok c.in-Ok-Some.field-0-is) (λ e. no_some _ e)

pub returns-in-Err : goal.returns-in-Err
returns-in-Err c = not_at_end c.args.text.now c.args.at c.next.result _ c.next.ensures c.in-Err.is (λ e. no_err _ e)
