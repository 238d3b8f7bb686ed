use Rattle.deck_values.proofs.Places.{places}
use Rattle.deck_values.proofs.laws.places_are_of_the_deck.Goals as goal

pub returns : goal.returns
returns c = places
