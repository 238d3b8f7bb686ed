use Rattle.gds_grammar.proofs.Fronts.{front_is_front, front_has_completion}
use Rattle.gds_grammar.proofs.laws.front_is_a_front.Goals as goal

pub returns : goal.returns
returns c = record { front = front_is_front; completed = front_has_completion }
