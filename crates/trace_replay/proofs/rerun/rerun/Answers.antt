use Rattle.std.proofs.lemmas.List.{take_more}
use Rattle.trace_replay.proofs.Made.{made_more, stops_here}
use Rattle.trace_replay.proofs.rerun.rerun.Goals as goal

pub loop-index-preserved : goal.loop-index-preserved
loop-index-preserved c =
    made_more c.args.costs.now c.args.table.now c.loop-index.table c.step.new.table _ _ _ c.loop-index.peak c.max-peak.result c.total.result
    c.loop-index.invariant (take_more c.args.events.now c.loop-index.index _ c.loop-index-test.true) c.in_default.ensures.made c.in_default.ensures.table
    c.max-peak.ensures c.total.ensures

pub returns-in-Some-clause-barred : goal.returns-in-Some-clause-barred
returns-in-Some-clause-barred c =
    stops_here c.args.costs.now c.args.table.now c.loop-index.table c.args.events.now c.loop-index.index _ c.loop-index.peak c.in-Some.reason
    c.loop-index-test.true c.loop-index.invariant c.in-Some.ensures.barred
