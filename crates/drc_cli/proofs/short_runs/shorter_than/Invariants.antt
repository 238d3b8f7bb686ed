-- The short ones of the runs so far are pushed.
use Rattle.std.proofs.Common.{◌≡◌, take}
use Rattle.drc_cli.specs.Working.ShortRuns.{short_of}
use Rattle.drc_cli.proofs.short_runs.shorter_than.Given as goal

abbrev pub invariant-loop-run : goal.invariant-loop-run
invariant-loop-run l = l.short.items ≡ short_of l.bound (take l.run-index l.runs)
