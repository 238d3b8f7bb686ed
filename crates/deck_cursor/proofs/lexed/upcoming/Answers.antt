use Rattle.std.proofs.Common.{ap, ◌∙◌, Ok, subst, drop, Option, Result}
use Rattle.deck_lexer.specs.declared.token.Token.{Token}
use Rattle.deck_lexer.specs.declared.token.LexFault.{LexFault}
use Rattle.deck_lexer.specs.Tokens.{Comes}
use Rattle.deck_cursor.proofs.Within.{upcoming_is, no_token, no_token_at_a_fact}
use Rattle.deck_cursor.proofs.lexed.upcoming.Goals as goal

pub returns-in-Ok-Some : goal.returns-in-Ok-Some
returns-in-Ok-Some c =
    let P : Result (Option Token) LexFault → Type 0 = λ r. Comes c.args.at (drop c.args.at c.args.text.now) r in
    upcoming_is c.args.text.now c.args.at c.in-Ok-Some.token c.requires (subst P (c.in-Ok-Some.is ∙ ap Ok c.in-Ok-Some.field-0-is) c.next.ensures)

pub returns-in-Ok-None : goal.returns-in-Ok-None
returns-in-Ok-None c =
    let P : Result (Option Token) LexFault → Type 0 = λ r. Comes c.args.at (drop c.args.at c.args.text.now) r in
    no_token c.args.text.now c.args.at (subst P (c.in-Ok-None.is ∙ ap Ok c.in-Ok-None.field-0-is) c.next.ensures)

pub returns-in-Err : goal.returns-in-Err
returns-in-Err c =
    let P : Result (Option Token) LexFault → Type 0 = λ r. Comes c.args.at (drop c.args.at c.args.text.now) r in
    no_token_at_a_fact c.args.text.now c.args.at c.in-Err.field-0 (subst P c.in-Err.is c.next.ensures)
