use Rattle.deck_worths.proofs.Circles.{none_in_circles}
use Rattle.deck_worths.proofs.laws.none_in_circles.Goals as goal

pub returns : goal.returns
returns c = none_in_circles
