use Rattle.std.proofs.Common.{sym, subst, arith}
use Rattle.deck_tree.specs.declared.refusal.DeckRefusal.{DeckRefusal}
use Rattle.deck_refusal.specs.Refused.{IsTextRefused, too_long, no_token}
use Rattle.deck_refusal.proofs.Reading.{text_wrong}
use Rattle.deck_refusal.proofs.whole.refusal.Goals as goal

pub returns-then-text-gt-LONGEST_DECK-clause-some : goal.returns-then-text-gt-LONGEST_DECK-clause-some
returns-then-text-gt-LONGEST_DECK-clause-some c = too_long (omega arith)

pub returns-in-Some-clause-some : goal.returns-in-Some-clause-some
returns-in-Some-clause-some c =
    let P : DeckRefusal → Type 0 = λ it. IsTextRefused c.args.text.now it in
    subst P (sym c.refusal_for.ensures) (no_token c.in-Some.fact (omega arith) c.in-Some.ensures.some)

pub returns-in-None-clause-some : goal.returns-in-None-clause-some
returns-in-None-clause-some c = text_wrong c.args.text.now c.first_wrong.result (omega arith) c.first_wrong.ensures.some
