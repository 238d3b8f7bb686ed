use Rattle.std.proofs.Common.{arith}
use Rattle.std.proofs.lemmas.Int.{to_z-of_z}
use Rattle.drc_num.proofs.Numbers.{same_exact, inverse_signed}
use Rattle.drc_num.proofs.frac.Frac.div.Goals as goal

pub returns-clause-exact : goal.returns-clause-exact
returns-clause-exact c = λ some. same_exact c.new.ensures.exact (grind (arith, to_z-of_z, inverse_signed)) (grind (arith, to_z-of_z))
