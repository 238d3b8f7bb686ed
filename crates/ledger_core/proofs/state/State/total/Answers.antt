use Rattle.std.proofs.Common.{◌∙◌, ap}
use Rattle.ledger_history.specs.Histories.{total}
use Rattle.ledger_core.specs.Jobs.{setup_for}
use Rattle.ledger_core.proofs.States.{same_setup}
use Rattle.ledger_core.proofs.state.State.total.Goals as goal

pub returns : goal.returns
returns g c = rw (← c.self.view_is) (c.total.ensures ∙ ap (λ x. total x c.self.inside.table.events) (same_setup (setup_for g.J.Job.wiring g.J.Job.cost_of g.J.Job.budget g.J.Job.workers) _ _ _ _ c.self.invariant))
