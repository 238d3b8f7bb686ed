use Rattle.std.proofs.Common.{take}
use Rattle.std.specs.List.{All}
use Rattle.drc_geom.specs.Squares.{IsRect}
use Rattle.region_size.proofs.tests.have_area.Given as goal

abbrev pub invariant-loop-r : goal.invariant-loop-r
invariant-loop-r l = All IsRect (take l.r-index l.rects)
