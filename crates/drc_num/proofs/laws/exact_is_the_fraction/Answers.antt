use Rattle.drc_num.proofs.TheFraction.{is_the_fraction}
use Rattle.drc_num.proofs.laws.exact_is_the_fraction.Goals as goal

pub returns : goal.returns
returns c = λ num den answer some low exact. is_the_fraction num den answer some low exact
