use Rattle.gds_placing.proofs.Following.{places_follow, unmoved_stays}
use Rattle.gds_placing.proofs.laws.places_follow.Goals as goal

pub returns : goal.returns
returns c = record { follow = places_follow; unmoved = unmoved_stays }
