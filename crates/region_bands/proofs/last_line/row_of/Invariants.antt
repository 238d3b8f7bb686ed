use Rattle.std.proofs.Common.{◌≡◌, take}
use Rattle.region_bands.specs.Working.LastLine.{spans_of}
use Rattle.region_bands.proofs.last_line.row_of.Given as goal

abbrev pub invariant-loop-flip : goal.invariant-loop-flip
invariant-loop-flip l = l.row ≡ spans_of (take l.flip-index l.flips)
