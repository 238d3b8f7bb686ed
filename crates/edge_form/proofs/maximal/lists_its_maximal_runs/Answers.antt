use Rattle.edge_form.proofs.Listed.{maximal_listed}
use Rattle.edge_form.proofs.maximal.lists_its_maximal_runs.Goals as goal

pub returns : goal.returns
returns c runs form run = maximal_listed runs run form
