use Rattle.deck_round.proofs.Decks.{same_text_same_deck}
use Rattle.deck_round.proofs.laws.only_places_are_not_printed.Goals as goal

pub returns : goal.returns
returns c = same_text_same_deck (record { one_list = c.one_list_of_tokens.ensures.tokens; one_deck = c.one_deck.ensures })
