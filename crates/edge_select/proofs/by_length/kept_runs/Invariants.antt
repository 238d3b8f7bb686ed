-- The runs so far that meet the limits are kept.
use Rattle.std.proofs.Common.{◌≡◌, take}
use Rattle.edge_select.specs.Working.Whole.{whole_runs}
use Rattle.edge_select.proofs.by_length.kept_runs.Given as goal

abbrev pub invariant-loop-run : goal.invariant-loop-run
invariant-loop-run l = l.kept ≡ whole_runs l.limits (take l.run-index l.runs)
