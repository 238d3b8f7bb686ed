use Rattle.deck_grammar.proofs.Fronts.{front_is_viable, viable_has_completion}
use Rattle.deck_grammar.proofs.laws.viable_is_a_front.Goals as goal

pub returns : goal.returns
returns c = record { front = front_is_viable; completed = viable_has_completion }
