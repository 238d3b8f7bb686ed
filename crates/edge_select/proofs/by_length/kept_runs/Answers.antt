use Rattle.edge_select.proofs.Kept.{last_at, clear_at}
use Rattle.edge_select.proofs.by_length.kept_runs.Goals as goal

pub push_run-requires-clause-last : goal.push_run-requires-clause-last
push_run-requires-clause-last c = last_at c.args.limits.now c.args.runs.now c.loop-run.run-index _ c.loop-run-test.true c.requires c.loop-run.kept c.loop-run.invariant

pub push_run-requires-clause-clear : goal.push_run-requires-clause-clear
push_run-requires-clause-clear c = clear_at c.args.limits.now c.args.runs.now c.loop-run.run-index _ c.loop-run-test.true c.requires c.loop-run.kept c.loop-run.invariant
