use Rattle.std.proofs.Common.{◌∙◌}
use Rattle.trace_text.specs.Traces.{told}
use Rattle.trace_replay.proofs.Judged.{mismatched, same_stop, stop_line, barred, all_made, replayed, refused_at_end}
use Rattle.trace_replay.proofs.judge.replay.Goals as goal

pub returns-in-Some-clause-refused : goal.returns-in-Some-clause-refused
returns-in-Some-clause-refused c =
    mismatched c.args.wiring.now c.list.result.now c.args.workers c.args.budget c.args.text.now c.in_ok-front.front c.in-Some.line c.refused-in-Some.result
    c.in_ok-front.ensures.front c.if-text-gt-LONGEST_TRACE.false c.list.ensures.same c.in-Some.ensures.some c.refused-in-Some.ensures

pub event_line-line-requires : goal.event_line-line-requires
event_line-line-requires c =
    let f = c.in_ok-front.front in
    let s = same_stop c.args.wiring.now c.args.workers c.args.budget (told f.trace) c.in_ok-table.table c.deref.result.now c.deref-2.result.now c.in-Err.barred.index c.in-Err.barred.reason
    c.in_ok-table.ensures c.deref.ensures.value c.deref-2.ensures.value c.in-Err.ensures.barred in
    stop_line _ _ c.args.text.now f c.in-Err.barred.index c.len.result c.in-Err.barred.reason c.in_ok-front.ensures.front c.in_ok-front.ensures.few c.if-text-gt-LONGEST_TRACE.false (c.len.ensures ∙ f.trace.costs.ok.0) s

pub returns-in-Err-clause-refused : goal.returns-in-Err-clause-refused
returns-in-Err-clause-refused c =
    let f = c.in_ok-front.front in
    let s = same_stop c.args.wiring.now c.args.workers c.args.budget (told f.trace) c.in_ok-table.table c.deref.result.now c.deref-2.result.now c.in-Err.barred.index c.in-Err.barred.reason
    c.in_ok-table.ensures c.deref.ensures.value c.deref-2.ensures.value c.in-Err.ensures.barred in
    barred c.args.wiring.now c.list.result.now c.args.workers c.args.budget c.args.text.now f c.in-Err.barred.index c.event_line-line.result c.len.result c.in-Err.barred.reason c.refused-in-Err.result
    c.in_ok-front.ensures.front c.if-text-gt-LONGEST_TRACE.false c.list.ensures.same c.in_default.ensures.none s (c.len.ensures ∙ f.trace.costs.ok.0) c.event_line-line.ensures c.refused-in-Err.ensures

pub returns-clause-replayed : goal.returns-clause-replayed
returns-clause-replayed c =
    let f = c.in_ok-front.front in
    let m = all_made c.args.wiring.now c.args.workers c.args.budget f c.in_ok-table.table c.rerun.new.table c.deref.result.now c.deref-2.result.now c.is_complete.result c.in-Ok.peak
    c.in_ok-table.ensures c.deref.ensures.value c.deref-2.ensures.value c.in-Ok.ensures.legal c.in-Ok.ensures.table c.is_complete.ensures c.in-Ok.ensures.peak in
    replayed c.args.wiring.now c.list.result.now c.args.workers c.args.budget c.args.text.now f c.is_complete.result c.in-Ok.peak c.conclude.result
    c.in_ok-front.ensures.front c.if-text-gt-LONGEST_TRACE.false c.list.ensures.same c.in_default.ensures.none m c.conclude.ensures

pub returns-clause-refused : goal.returns-clause-refused
returns-clause-refused c =
    let f = c.in_ok-front.front in
    let m = all_made c.args.wiring.now c.args.workers c.args.budget f c.in_ok-table.table c.rerun.new.table c.deref.result.now c.deref-2.result.now c.is_complete.result c.in-Ok.peak
    c.in_ok-table.ensures c.deref.ensures.value c.deref-2.ensures.value c.in-Ok.ensures.legal c.in-Ok.ensures.table c.is_complete.ensures c.in-Ok.ensures.peak in
    refused_at_end c.args.wiring.now c.list.result.now c.args.workers c.args.budget c.args.text.now f c.is_complete.result c.in-Ok.peak c.conclude.result
    c.in_ok-front.ensures.front c.if-text-gt-LONGEST_TRACE.false c.list.ensures.same c.in_default.ensures.none m c.conclude.ensures
