use Rattle.edge_form.proofs.Listed.{same_runs}
use Rattle.edge_form.proofs.same_units.same_units_same_runs.Goals as goal

pub returns : goal.returns
returns c = same_runs
