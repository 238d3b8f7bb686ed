use Rattle.std.proofs.Common.{◌≡◌, take}
use Rattle.region_merge.specs.Working.Sides.{upper_sides}
use Rattle.region_merge.proofs.sides.upper_sides.Given as goal

abbrev pub invariant-loop-rect : goal.invariant-loop-rect
invariant-loop-rect l = l.sides.items ≡ upper_sides (take l.rect-index l.rects)
