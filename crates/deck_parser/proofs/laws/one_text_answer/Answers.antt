use Rattle.deck_parser.proofs.OneDeck.{one}
use Rattle.deck_parser.proofs.laws.one_text_answer.Goals as goal

pub returns-clause-deck : goal.returns-clause-deck
returns-clause-deck c = one c.one_list_of_tokens.ensures.tokens c.one_deck.ensures

pub returns-clause-refusal : goal.returns-clause-refusal
returns-clause-refusal c = c.one_refusal.ensures.one

pub returns-clause-not_both : goal.returns-clause-not_both
returns-clause-not_both c = λ text deck refusal is. c.one_refusal.ensures.not_both text deck.statements refusal is.accepted
