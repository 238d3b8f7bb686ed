use Rattle.std.proofs.Common.{arith}
use Rattle.std.proofs.lemmas.Grind.{common_steps}
use Rattle.gds_reach.proofs.tests.living.Goals as goal

pub live-requires-clause-within : goal.live-requires-clause-within
live-requires-clause-within c = c.are_within.ensures.0 (grind (common_steps, arith))
