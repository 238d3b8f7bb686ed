use Rattle.chunked_list.proofs.Orders.{anywhere_monotone}
use Rattle.chunked_list.proofs.tests.items.Goals as goal

pub read-requires : goal.read-requires
read-requires c = anywhere_monotone _
