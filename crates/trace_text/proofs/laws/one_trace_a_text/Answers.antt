use Rattle.trace_text.proofs.FrontLaws.{one_trace}
use Rattle.trace_text.proofs.laws.one_trace_a_text.Goals as goal

pub returns : goal.returns
returns c text t u p q = one_trace text t u p q
