use Rattle.std.proofs.Common.{arith}
use Rattle.std.proofs.lemmas.Grind.{common_steps}
use Rattle.gds_reach.proofs.tests.judge.Goals as goal

pub reached-requires-clause-within : goal.reached-requires-clause-within
reached-requires-clause-within c = c.are_within.ensures.0 (grind (common_steps, arith))

pub too_deep-requires-clause-within : goal.too_deep-requires-clause-within
too_deep-requires-clause-within c = c.are_within.ensures.0 (grind (common_steps, arith))
