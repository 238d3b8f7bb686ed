use Rattle.std.proofs.Common.{arith}
use Rattle.std.proofs.lemmas.Grind.{common_steps}
use Rattle.deck_graph.proofs.tests.cyclic.Goals as goal

pub order-requires-clause-within : goal.order-requires-clause-within
order-requires-clause-within c = c.are_within.ensures.0 (grind (common_steps, arith))
