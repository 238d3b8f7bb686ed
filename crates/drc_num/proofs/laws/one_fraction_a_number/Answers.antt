use Rattle.drc_num.proofs.Numbers.{one_lowest}
use Rattle.drc_num.proofs.laws.one_fraction_a_number.Goals as goal

pub returns : goal.returns
returns c = λ a b l k e. one_lowest a b l k e
