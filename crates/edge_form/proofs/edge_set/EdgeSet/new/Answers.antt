use Rattle.std.specs.List.Sorted.{IsStrictlySortedBy}
use Rattle.edge_form.proofs.edge_set.EdgeSet.new.Goals as goal

pub invariant_of-result : goal.invariant_of-result
unfolding IsStrictlySortedBy
invariant_of-result c = rw c.new.ensures.items (record { ordered = tt; maximal = tt })
