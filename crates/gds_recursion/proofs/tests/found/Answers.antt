use Rattle.std.proofs.Common.{arith}
use Rattle.std.proofs.lemmas.Grind.{common_steps}
use Rattle.gds_recursion.proofs.tests.found.Goals as goal

pub recursive-requires-clause-within : goal.recursive-requires-clause-within
recursive-requires-clause-within c = c.are_within.ensures.0 (grind (common_steps, arith))
