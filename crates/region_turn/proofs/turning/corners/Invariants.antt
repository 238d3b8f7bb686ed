use Rattle.std.proofs.Common.{◌≡◌, take}
use Rattle.region_turn.specs.Working.Corners.{corners_of}
use Rattle.region_turn.proofs.turning.corners.Given as goal

abbrev pub invariant-loop-flip : goal.invariant-loop-flip
invariant-loop-flip l = l.corners.items ≡ corners_of (take l.flip-index l.flips)
