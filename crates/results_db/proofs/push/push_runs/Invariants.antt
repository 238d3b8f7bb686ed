-- What is pushed, and the text of the runs that are left, numbered on from the next index, make the whole.
use Rattle.std.proofs.Common.{◌≡◌, ◌+◌, ◌++◌, drop, map}
use Rattle.results_db.specs.Results.{run, results_from}
use Rattle.results_db.proofs.push.push_runs.Given as goal

abbrev pub invariant-loop-index : goal.invariant-loop-index
invariant-loop-index l =
    l.text.items ++ results_from (l.first + l.index) (map run (drop l.index l.runs)) ≡ l.initial.text.items ++ results_from l.first (map run l.runs)
