use Rattle.region_form.proofs.SameSquares.{same_flips}
use Rattle.region_form.proofs.same_squares.same_squares_same_region.Goals as goal

pub returns : goal.returns
returns c = λ a b p q h. same_flips a b p.sorted q.sorted h
