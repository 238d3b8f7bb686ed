use Rattle.trace_text.proofs.FrontLaws.{one_fault}
use Rattle.trace_text.proofs.laws.spelled_or_at_fault.Goals as goal

pub returns-clause-spelled : goal.returns-clause-spelled
returns-clause-spelled c text t line s f = f.unspelled t s

pub returns-clause-once : goal.returns-clause-once
returns-clause-once c text j k p q = one_fault text j k p q
