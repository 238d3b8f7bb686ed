use Rattle.std.proofs.Common.{◌∙◌}
use Rattle.trace_text.specs.Traces.{told}
use Rattle.trace_text.proofs.FrontLaws.{reads_kept, shorter, reads_to}
use Rattle.trace_text.proofs.front.read_front.Goals as goal

pub loop-line-smaller : goal.loop-line-smaller
loop-line-smaller c = shorter c.loop-line.rest.now c.in-Some.line c.in-Some.behind.now c.in-Some.ensures.0

pub loop-line-preserved : goal.loop-line-preserved
loop-line-preserved c =
    reads_kept c.args.text.now c.loop-line.place (told c.loop-line.trace) c.loop-line.rest.now c.loop-line.lines c.in-Some.line c.in-Some.behind.now c.len.result (told c.keep.new.trace) c.place_behind-place.result
    c.loop-line.invariant c.in-Some.ensures.0 (c.len.ensures ∙ c.loop-line.trace.costs.ok.0) c.in-Some.ensures.1 c.in_ok-keep.ensures c.place_behind-place.ensures

pub returns-clause-front : goal.returns-clause-front
returns-clause-front c = reads_to c.args.text.now _ c.len.result c.loop-line.invariant (c.len.ensures ∙ c.loop-line.trace.costs.ok.0) c.in_default.ensures
