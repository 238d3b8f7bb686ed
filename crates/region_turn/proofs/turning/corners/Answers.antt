use Rattle.std.proofs.Common.{pos}
use Rattle.region_form.specs.declared.flip.Flip.{Flip}
use Rattle.region_turn.proofs.Corners.{corners_more}
use Rattle.region_turn.proofs.turning.corners.Goals as goal

pub loop-flip-preserved : goal.loop-flip-preserved
loop-flip-preserved c =
    let d : Flip = record { y = pos 0; x0 = pos 0; x1 = pos 0 } in
    corners_more c.args.flips.now c.loop-flip.flip-index d c.loop-flip.corners.items c.push_corners.new.corners.items c.loop-flip-test.true c.loop-flip.invariant c.in_ok-push_corners.ensures
