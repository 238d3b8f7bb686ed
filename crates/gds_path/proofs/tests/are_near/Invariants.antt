use Rattle.std.proofs.Common.{take}
use Rattle.std.specs.List.{All}
use Rattle.gds_path.specs.Paths.{IsMeasuredPoint}
use Rattle.gds_path.proofs.tests.are_near.Given as goal

abbrev pub invariant-loop-p : goal.invariant-loop-p
invariant-loop-p l = All IsMeasuredPoint (take l.p-index l.points)
