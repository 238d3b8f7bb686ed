use Rattle.std.proofs.Common.{refl, sym, ◌∙◌, ap}
use Rattle.ledger_core.specs.Jobs.{setup_for}
use Rattle.ledger_core.proofs.States.{not_admitted, may_charge}
use Rattle.ledger_core.proofs.state.State.charge.Goals as goal

pub returns-then-not-admits : goal.returns-then-not-admits
returns-then-not-admits g c =
    let q = not_admitted (setup_for g.J.Job.wiring g.J.Job.cost_of g.J.Job.budget g.J.Job.workers) _ _ _ _ c.admits.result c.ticket.inside.op c.args.cost c.self.invariant c.admits.ensures c.if-not-admits.true in
    rw (← c.self.view_is, ← c.ticket.view_is) (refl, refl, sym c.is_stopped.ensures ∙ c.if-is_stopped.false, q.0, q.1)

pub admit-requires-clause-enabled : goal.admit-requires-clause-enabled
admit-requires-clause-enabled g c = λ κs m.
    let e = rw (← c.self.view_is, ← c.ticket.view_is) at c.requires.agrees in
    let n = rw (← c.ticket.view_is) at c.requires.cost in
    rw (← c.self.view_is, ← c.ticket.view_is) (may_charge (setup_for g.J.Job.wiring g.J.Job.cost_of g.J.Job.budget g.J.Job.workers) _ _ _ _ c.admits.result c.ticket.inside.worker c.ticket.inside.op c.args.cost c.self.invariant e (sym c.is_stopped.ensures ∙ c.if-is_stopped.false) n c.admits.ensures c.if-not-admits.false)

pub returns : goal.returns
returns g c =
    let e = rw (← c.self.view_is, ← c.ticket.view_is) at c.requires.agrees in
    let n = rw (← c.ticket.view_is) at c.requires.cost in (
      c.admit.ensures.same,
      rw (← c.self.view_is, ← c.ticket.view_is) (may_charge (setup_for g.J.Job.wiring g.J.Job.cost_of g.J.Job.budget g.J.Job.workers) _ _ _ _ c.admits.result c.ticket.inside.worker c.ticket.inside.op c.args.cost c.self.invariant e (sym c.is_stopped.ensures ∙ c.if-is_stopped.false) n c.admits.ensures c.if-not-admits.false),
      c.admit.ensures.machine,
    )
