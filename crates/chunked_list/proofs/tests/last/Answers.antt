use Rattle.chunked_list.proofs.Orders.{nowhere_monotone}
use Rattle.chunked_list.proofs.tests.last.Goals as goal

pub read-requires : goal.read-requires
read-requires c = nowhere_monotone _
