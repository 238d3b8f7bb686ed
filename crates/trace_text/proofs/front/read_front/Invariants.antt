use Rattle.std.proofs.Common.{length}
use Rattle.trace_text.specs.Traces.{told}
use Rattle.trace_text.specs.Working.Places.{IsReading}
use Rattle.trace_text.proofs.front.read_front.Given as goal

abbrev pub invariant-loop-line : goal.invariant-loop-line
invariant-loop-line l = IsReading l.text l.place (told l.trace) l.rest l.lines

abbrev pub decreases-loop-line : goal.decreases-loop-line
decreases-loop-line l = length l.rest
