-- What is pushed, and the text of the runs that are left, numbered on from the next index, make the whole.
use Rattle.std.proofs.Common.{◌≡◌, ◌+◌, ◌++◌, drop, map}
use Rattle.drc_cli.specs.Text.{run, results_from}
use Rattle.drc_cli.proofs.text.push_runs.Given as goal

abbrev pub invariant-loop-index : goal.invariant-loop-index
invariant-loop-index l =
    l.text.items ++ results_from (l.index + 1) (map run (drop l.index l.runs)) ≡ l.initial.text.items ++ results_from 1 (map run l.runs)
