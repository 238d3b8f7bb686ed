use Rattle.deck_round.proofs.Formed.{formed_deck}
use Rattle.deck_round.proofs.laws.the_deck_of_a_text_is_well_formed.Goals as goal

pub returns : goal.returns
returns c = formed_deck
