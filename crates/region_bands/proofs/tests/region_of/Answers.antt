use Rattle.std.proofs.Common.{pos, ◌+ℤ◌, arith}
use Rattle.std.proofs.lemmas.Int.{ints}
use Rattle.region_form.proofs.FlipLines.{below_up}
use mir.Syntax.{w64}
use mir.Val.{to_z}
use Rattle.region_bands.proofs.tests.region_of.Goals as goal

pub push_band-requires-clause-above : goal.push_band-requires-clause-above
push_band-requires-clause-above c =
    below_up (to_z w64 c.loop-piece.top-bits +ℤ pos 1) _ c.loop-piece.region (omega (arith, ints)) c.loop-piece.invariant
