use Rattle.drc_geom.proofs.MaximalRuns.{one_run}
use Rattle.drc_geom.proofs.run_of_unit.one_run_of_a_unit.Goals as goal

pub returns : goal.returns
returns c = one_run
