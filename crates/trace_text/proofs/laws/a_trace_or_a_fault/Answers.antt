use Rattle.trace_text.proofs.Reaching.{trace_or_fault}
use Rattle.trace_text.proofs.laws.a_trace_or_a_fault.Goals as goal

pub returns : goal.returns
returns c text = trace_or_fault text
