use Rattle.trace_line.proofs.LineLaws.{one_line}
use Rattle.trace_line.proofs.laws.one_line_at_a_front.Goals as goal

pub returns : goal.returns
returns c text k l a b p q = one_line text k l a b p q
