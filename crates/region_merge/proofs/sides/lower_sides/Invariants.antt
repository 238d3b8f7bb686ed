use Rattle.std.proofs.Common.{◌≡◌, take}
use Rattle.region_merge.specs.Working.Sides.{lower_sides}
use Rattle.region_merge.proofs.sides.lower_sides.Given as goal

abbrev pub invariant-loop-rect : goal.invariant-loop-rect
invariant-loop-rect l = l.sides.items ≡ lower_sides (take l.rect-index l.rects)
