use Rattle.std.proofs.Common.{arith}
use Rattle.std.proofs.lemmas.Int.{to_z-of_z}
use Rattle.drc_num.proofs.Numbers.{same_exact}
use Rattle.drc_num.proofs.frac.Frac.rem.Goals as goal

pub returns-clause-exact : goal.returns-clause-exact
returns-clause-exact c = λ some. same_exact c.new.ensures.exact (grind (arith, to_z-of_z)) c.common_den.ensures.value
