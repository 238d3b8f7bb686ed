use Rattle.edge_form.proofs.Pushing.{pushed}
use Rattle.edge_form.proofs.edge_set.EdgeSet.push_run.Goals as goal

pub invariant_of-self-2 : goal.invariant_of-self-2
invariant_of-self-2 c =
    rw c.in_ok-push.ensures.items (pushed _ _ c.self.invariant c.requires.not_empty (rw c.self.view_is c.requires.clear) (rw c.self.view_is c.requires.last))
