use Rattle.gds_library.proofs.OneRefusal.{not_both, one}
use Rattle.gds_library.proofs.laws.one_refusal.Goals as goal

pub returns-clause-one : goal.returns-clause-one
returns-clause-one c = one c.one_refusal.ensures.one c.one_refusal.ensures.not_both

pub returns-clause-not_both : goal.returns-clause-not_both
returns-clause-not_both c = not_both c.one_refusal.ensures.one c.one_refusal.ensures.not_both
