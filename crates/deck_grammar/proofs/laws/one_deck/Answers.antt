use Rattle.deck_grammar.proofs.Unique.{one_deck}
use Rattle.deck_grammar.proofs.laws.one_deck.Goals as goal

pub returns : goal.returns
returns c = one_deck
