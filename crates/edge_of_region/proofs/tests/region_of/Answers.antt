use Rattle.std.proofs.Common.{arith}
use Rattle.std.proofs.lemmas.Int.{ints}
use Rattle.region_form.proofs.FlipLines.{below_up}
use Rattle.edge_of_region.proofs.tests.region_of.Goals as goal

pub rise-requires : goal.rise-requires
rise-requires c =
    below_up _ _ c.loop-line.builder.flips (omega (arith, ints)) c.loop-line.invariant

pub rise-requires-then-last-top : goal.rise-requires-then-last-top
rise-requires-then-last-top c =
    below_up _ _ c.loop-line.builder.flips (omega (arith, ints)) c.loop-line.invariant
