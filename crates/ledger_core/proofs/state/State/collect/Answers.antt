use Rattle.ledger_core.specs.Jobs.{setup_for}
use Rattle.ledger_core.proofs.Endings.{shows_reported, record_from, complete_from}
use Rattle.ledger_core.proofs.state.State.collect.Goals as goal

pub invariant_of-reported : goal.invariant_of-reported
invariant_of-reported g c =
    shows_reported (setup_for g.J.Job.wiring g.J.Job.cost_of g.J.Job.budget g.J.Job.workers) c.self.inside.table.events c.self.inside.shelf c.self.invariant.legal (rw (← c.self.view_is) at c.requires) c.self.invariant.stocked

pub returns-clause-history : goal.returns-clause-history
returns-clause-history g c =
    let r = c.record_of-history.ensures in
    rw (← c.self.view_is) (record_from (setup_for g.J.Job.wiring g.J.Job.cost_of g.J.Job.budget g.J.Job.workers) c.self.inside.table _ _ _ c.record_of-history.result c.self.invariant r.operations r.workers r.budget r.events)

pub returns-clause-complete : goal.returns-clause-complete
returns-clause-complete g c =
    let r = c.record_of-history.ensures in
    let q = record_from (setup_for g.J.Job.wiring g.J.Job.cost_of g.J.Job.budget g.J.Job.workers) c.self.inside.table _ _ _ c.record_of-history.result c.self.invariant r.operations r.workers r.budget r.events in
    complete_from (setup_for g.J.Job.wiring g.J.Job.cost_of g.J.Job.budget g.J.Job.workers) c.self.inside.table.events c.record_of-history.result q.made (rw (← c.self.view_is) at c.requires)
