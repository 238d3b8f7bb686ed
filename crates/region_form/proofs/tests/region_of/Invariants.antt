use Rattle.std.proofs.Common.{pos, ◌+ℤ◌}
use Rattle.region_form.specs.Flips.{AreBelow}
use Rattle.region_form.proofs.tests.region_of.Given as goal

abbrev pub invariant-loop-line : goal.invariant-loop-line
invariant-loop-line l = AreBelow (l.last +ℤ pos 1) l.builder.flips
