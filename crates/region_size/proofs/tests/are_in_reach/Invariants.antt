use Rattle.std.proofs.Common.{take, ◌^◌, pos}
use Rattle.std.specs.List.{All}
use Rattle.region_size.specs.Working.Widths.{LiesWithin}
use Rattle.region_size.proofs.tests.are_in_reach.Given as goal

abbrev pub invariant-loop-r : goal.invariant-loop-r
invariant-loop-r l = All (LiesWithin (pos (2 ^ 40))) (take l.r-index l.rects)
