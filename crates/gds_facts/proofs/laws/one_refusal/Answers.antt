use Rattle.gds_facts.proofs.OneFact.{one, not_both}
use Rattle.gds_facts.proofs.laws.one_refusal.Goals as goal

pub returns : goal.returns
returns c = record { one = one; not_both = not_both }
