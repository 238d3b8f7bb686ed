use Rattle.region_bands.proofs.SameBands.{same_bands}
use Rattle.region_bands.proofs.same_bands.same_squares_same_bands.Goals as goal

pub returns : goal.returns
returns c = same_bands
