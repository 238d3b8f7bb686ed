use Rattle.std.proofs.Common.{◌≡◌, map, take}
use Rattle.region_size.specs.Working.Widths.{widened}
use Rattle.region_size.proofs.widen.widen.Given as goal

abbrev pub invariant-loop-rect : goal.invariant-loop-rect
invariant-loop-rect l = l.wider.items ≡ map (widened l.dx l.dy) (take l.rect-index l.rects)
