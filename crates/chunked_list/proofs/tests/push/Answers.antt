use Rattle.chunked_list.proofs.Orders.{nowhere_monotone}
use Rattle.chunked_list.proofs.tests.push.Goals as goal

pub replace-requires-clause-order : goal.replace-requires-clause-order
replace-requires-clause-order c = nowhere_monotone _
