use Rattle.list_facts.proofs.InOrder.{ordered_same}
use Rattle.list_facts.proofs.same_members.same_members_same_list.Goals as goal

pub returns : goal.returns
returns g c = ordered_same g.T.Ord.cmp g.met.T.Ord.total
