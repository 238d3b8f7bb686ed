use Rattle.std.proofs.Common.{pos, ◌+ℤ◌}
use Rattle.region_form.specs.Flips.{AreBelow}
use Rattle.region_bands.proofs.tests.region_of.Given as goal

abbrev pub invariant-loop-piece : goal.invariant-loop-piece
invariant-loop-piece l = AreBelow (l.top +ℤ pos 1) l.region
