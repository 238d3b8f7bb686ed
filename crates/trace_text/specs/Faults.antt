-- What reading answers where it doesn't give a trace.
use Rattle.std.specs.Prelude.{◌≡◌, ℕ, ◌<◌, ◌≤◌, List, length}
use Rattle.trace_text.specs.declared.fault.TraceReason.{TraceReason}
use Rattle.trace_text.specs.declared.fault.TraceReason.TheVariants.{TooLong, Syntax}
use Rattle.trace_text.specs.declared.fault.TraceFault.{TraceFault}
use Rattle.trace_text.specs.declared.fault.TraceFault.TheVariants.{Refused, Memory}
use Rattle.trace_text.specs.Traces.{longest_trace}
use Rattle.trace_text.specs.Refusals.{IsSyntaxFault}

-- the text is refused for its form at this line: it is too long, or this is the line at which it is no trace any more
abbrev pub IsMisformed : List ℕ → ℕ → TraceReason → Type 0
IsMisformed text line TooLong = (line ≡ 0) × (longest_trace < length text)
IsMisformed text line Syntax = (length text ≤ longest_trace) × IsSyntaxFault text line
IsMisformed text line reason = ⊥

-- it is refused, or memory ran out
abbrev pub FailsToRead : List ℕ → TraceFault → Type 0
FailsToRead text (Refused r) = IsMisformed text r.line r.reason
FailsToRead text Memory = Unit {0}
