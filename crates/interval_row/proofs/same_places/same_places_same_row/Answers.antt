use Rattle.interval_row.proofs.SamePlaces.{same_rows}
use Rattle.interval_row.proofs.same_places.same_places_same_row.Goals as goal

pub returns : goal.returns
returns c = same_rows
