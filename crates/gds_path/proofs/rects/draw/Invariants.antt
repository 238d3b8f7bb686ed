use Rattle.std.proofs.Common.{◌≡◌, ◌++◌, drop, take, length}
use Rattle.gds_path.specs.Working.Pens.{IsSteady, ahead}
use Rattle.gds_path.proofs.rects.draw.Given as goal

abbrev pub invariant-loop-point : goal.invariant-loop-point
invariant-loop-point l =
    IsSteady l.pen
    × (l.out.items ++ ahead l.stroke l.pen (drop l.point-index l.points) ≡ l.fn.out.items ++ ahead l.stroke l.fn.pen l.points)
    × (take (length l.fn.out.items) l.out.items ≡ l.fn.out.items)
