use Rattle.trace_text.proofs.PrintLaws.{prints_parts}
use Rattle.trace_text.proofs.print.print_trace.Goals as goal

pub returns : goal.returns
returns c =
    prints_parts c.args.history.now c.deref.result.now c.in_ok-costs.costs.items c.deref-2.result.now c.deref-3.result.now
    c.new-text.result.items c.push_header.new.text.items c.push_costs.new.text.items c.push_events.new.text.items c.push_line.new.text.items
    c.deref.ensures.value c.deref-2.ensures.value c.deref-3.ensures.value c.new-text.ensures.items
    c.push_header.ensures.fit c.in_ok-costs.ensures.count c.in_ok-costs.ensures.each
    c.in_ok-push_costs.ensures.fit c.in_ok-push_events.ensures.fit c.requires
    c.in_ok-push_header.ensures.text c.in_ok-push_costs.ensures.text c.in_ok-push_events.ensures.text c.in_ok-push_line.ensures
