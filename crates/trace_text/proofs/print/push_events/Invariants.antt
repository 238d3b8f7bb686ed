-- What is pushed, and the lines of the events that are left, make the whole; the events so far have texts.
use Rattle.std.proofs.Common.{◌≡◌, ◌++◌, drop, take, map}
use Rattle.std.specs.List.{AllByRecursion}
use Rattle.trace_line.specs.declared.line.Line.TheVariants.{Step}
use Rattle.trace_text.specs.Traces.{text_of}
use Rattle.trace_text.specs.Working.Charges.{HasTextIfNoStop}
use Rattle.trace_text.proofs.print.push_events.Given as goal

abbrev pub invariant-loop-event : goal.invariant-loop-event
invariant-loop-event l =
    (l.text.items ++ text_of (map Step (drop l.event-index l.events)) ≡ l.initial.text.items ++ text_of (map Step l.events))
    × AllByRecursion HasTextIfNoStop (take l.event-index l.events)
