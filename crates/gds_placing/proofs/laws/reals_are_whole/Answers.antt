use Rattle.gds_placing.proofs.Wholes.{value_of_whole, whole_of_value}
use Rattle.gds_placing.proofs.laws.reals_are_whole.Goals as goal

pub returns : goal.returns
returns c = λ real n. (value_of_whole real n, whole_of_value real n)
