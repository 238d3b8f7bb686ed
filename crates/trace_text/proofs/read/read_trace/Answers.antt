use Rattle.std.proofs.Common.{sym, subst}
use Rattle.trace_text.specs.Faults.{FailsToRead}
use Rattle.trace_text.proofs.FrontLaws.{fault_here}
use Rattle.trace_text.proofs.read.read_trace.Goals as goal

pub returns-else-is_whole-clause-refused : goal.returns-else-is_whole-clause-refused
returns-else-is_whole-clause-refused c =
    subst (FailsToRead c.args.text.now) (sym c.refusal-else-is_whole.ensures)
    (c.if-text-gt-LONGEST_TRACE.false, fault_here c.args.text.now c.in_ok-front.front c.is_whole.result c.in_ok-front.ensures.front c.is_whole.ensures c.if-is_whole.false)
