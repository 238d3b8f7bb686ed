use Rattle.gds_placing.proofs.FactOrder.{facts_rise}
use Rattle.gds_placing.proofs.laws.facts_by_number.Goals as goal

pub returns : goal.returns
returns c = facts_rise
