use Rattle.ledger_core.specs.Jobs.{setup_for}
use Rattle.ledger_core.proofs.Endings.{record_from}
use Rattle.ledger_core.proofs.state.State.into_history.Goals as goal

pub returns : goal.returns
returns g c =
    let r = c.record_of.ensures in
    rw (← c.self.view_is) (record_from (setup_for g.J.Job.wiring g.J.Job.cost_of g.J.Job.budget g.J.Job.workers) c.self.inside.table _ _ _ c.record_of.result c.self.invariant r.operations r.workers r.budget r.events)
