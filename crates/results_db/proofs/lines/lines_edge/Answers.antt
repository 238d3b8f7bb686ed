use Rattle.std.proofs.Common.{arith}
use Rattle.std.proofs.lemmas.Grind.{common_steps}
use Rattle.results_db.proofs.Joined.{lines_of_runs}
use Rattle.results_db.proofs.lines.lines_edge.Goals as goal

pub invariant_of-result : goal.invariant_of-result
invariant_of-result c = grind (arith, common_steps, lines_of_runs)
