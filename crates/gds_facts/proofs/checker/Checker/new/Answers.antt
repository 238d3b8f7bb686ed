use Rattle.std.proofs.Common.{refl}
use Rattle.gds_facts.proofs.Taking.{none_taken}
use Rattle.gds_facts.proofs.checker.Checker.new.Goals as goal

pub returns-clause-taken : goal.returns-clause-taken
returns-clause-taken c = none_taken _ refl refl
