use Rattle.std.proofs.Common.{take}
use Rattle.region_rects.proofs.Canonical.{IsTold}
use Rattle.region_rects.proofs.ended.all_ended.Given as goal

abbrev pub invariant-loop-flip : goal.invariant-loop-flip
invariant-loop-flip l = IsTold l.flips (take l.flip-index l.flips) l.row l.rects.items
