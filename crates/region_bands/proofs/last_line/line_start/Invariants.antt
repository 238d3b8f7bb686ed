use Rattle.std.proofs.Common.{◌≤◌, length, drop}
use Rattle.region_bands.specs.Working.LastLine.{AreOn}
use Rattle.region_bands.proofs.last_line.line_start.Given as goal

abbrev pub invariant-loop-start : goal.invariant-loop-start
invariant-loop-start l = record { in_range : l.start ≤ length l.flips; on : AreOn l.line (drop l.start l.flips) }

abbrev pub decreases-loop-start : goal.decreases-loop-start
decreases-loop-start l = l.start
