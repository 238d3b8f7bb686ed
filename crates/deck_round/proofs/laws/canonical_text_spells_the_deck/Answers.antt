use Rattle.deck_round.proofs.Decks.{spelled_so, spelled_only_so}
use Rattle.deck_round.proofs.laws.canonical_text_spells_the_deck.Goals as goal

pub returns-clause-some : goal.returns-clause-some
returns-clause-some c = spelled_so

pub returns-clause-only : goal.returns-clause-only
returns-clause-only c = spelled_only_so (record { one_list = c.one_list_of_tokens.ensures.tokens; one_deck = c.one_deck.ensures })
