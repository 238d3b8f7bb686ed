use Rattle.std.proofs.Common.{length}
use Rattle.region_bands.proofs.BandRise.{IsRise}
use Rattle.region_bands.proofs.cut.bands.Given as goal

abbrev pub invariant-loop-line : goal.invariant-loop-line
invariant-loop-line l = IsRise l.region l.bands.items l.bottom l.climb

abbrev pub decreases-loop-line : goal.decreases-loop-line
decreases-loop-line l = length l.climb.flips
