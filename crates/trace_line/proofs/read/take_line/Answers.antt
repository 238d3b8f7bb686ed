use Rattle.trace_line.proofs.LineLaws.{found_begins, none_begins}
use Rattle.trace_line.proofs.read.take_line.Goals as goal

pub returns-clause-found : goal.returns-clause-found
returns-clause-found c = found_begins c.args.text.now c.any_line.result c.any_line.ensures

pub returns-clause-none : goal.returns-clause-none
returns-clause-none c = none_begins c.args.text.now c.any_line.result c.any_line.ensures
