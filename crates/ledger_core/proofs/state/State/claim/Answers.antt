use Rattle.std.proofs.Common.{◌∷◌, sym, ◌∙◌, ap, subst}
use Rattle.ledger_history.specs.declared.event.Event.TheVariants.{Claim}
use Rattle.ledger_history.specs.Enabled.{Enabled, Legal, AllFinishedBelow}
use Rattle.ledger_core.specs.declared.condition.Condition.TheVariants.{Claimed}
use Rattle.ledger_core.specs.Jobs.{setup_for}
use Rattle.ledger_core.specs.Machines.{after}
use Rattle.ledger_core.proofs.States.{may_claim}
use Rattle.ledger_core.proofs.Alone.{never_waits, claims_lowest}
use Rattle.list_facts.proofs.Tests.{clash}
use Rattle.ledger_core.proofs.state.State.claim.Goals as goal

pub take-requires-clause-enabled : goal.take-requires-clause-enabled
take-requires-clause-enabled g c = λ κs m.
    let e = rw (← c.self.view_is) at c.requires in
    rw (← c.self.view_is) (may_claim (setup_for g.J.Job.wiring g.J.Job.cost_of g.J.Job.budget g.J.Job.workers) _ _ _ _ c.args.seat.worker c.in-Some.op c.self.invariant e (sym c.is_stopped.ensures ∙ c.if-is_stopped.false) c.in-Some.ensures.some)

pub returns-in-Some-clause-claims : goal.returns-in-Some-clause-claims
returns-in-Some-clause-claims g c =
    let s = setup_for g.J.Job.wiring g.J.Job.cost_of g.J.Job.budget g.J.Job.workers in
    let w = c.args.seat.worker in
    let e = rw (← c.self.view_is) at c.requires in
    let a = may_claim s _ _ _ _ w c.in-Some.op c.self.invariant e (sym c.is_stopped.ensures ∙ c.if-is_stopped.false) c.in-Some.ensures.some in (
      c.take.ensures.worker,
      rw (← c.self.view_is) (subst (λ o. Enabled s c.self.inside.table.events (Claim w o)) (sym c.take.ensures.op) a),
      c.take.ensures.machine ∙ ap (λ o. after c.args.self.now (Claim w o) w (Claimed o)) (sym c.take.ensures.op),
    )

pub returns-in-Some-clause-legal : goal.returns-in-Some-clause-legal
returns-in-Some-clause-legal g c =
    let s = setup_for g.J.Job.wiring g.J.Job.cost_of g.J.Job.budget g.J.Job.workers in
    let e = rw (← c.self.view_is) at c.requires in
    let a = may_claim s _ _ _ _ c.args.seat.worker c.in-Some.op c.self.invariant e (sym c.is_stopped.ensures ∙ c.if-is_stopped.false) c.in-Some.ensures.some in
    subst (λ m. Legal s m.events) (sym c.take.ensures.machine) (rw (← c.self.view_is) (a, c.self.invariant.legal))

pub returns-in-Some-clause-alone : goal.returns-in-Some-clause-alone
returns-in-Some-clause-alone g c = λ q.
    let s = setup_for g.J.Job.wiring g.J.Job.cost_of g.J.Job.budget g.J.Job.workers in
    let w = c.args.seat.worker in
    let i = rw (← c.self.view_is) at q in
    let a = claims_lowest s _ _ _ _ w c.in-Some.op (record { state = c.self.invariant; idle = i; runs = sym c.is_stopped.ensures ∙ c.if-is_stopped.false }) c.in-Some.ensures.some in
    subst (λ m. AllFinishedBelow s m.events c.take.result.op) (sym c.take.ensures.machine)
    (rw (← c.self.view_is) (subst (λ o. AllFinishedBelow s (Claim w c.in-Some.op ∷ c.self.inside.table.events) o) (sym c.take.ensures.op) a))

pub returns-in-None-clause-alone : goal.returns-in-None-clause-alone
returns-in-None-clause-alone g c = λ q.
    let i = rw (← c.self.view_is) at q in
    never_waits (setup_for g.J.Job.wiring g.J.Job.cost_of g.J.Job.budget g.J.Job.workers) _ _ _ _
    (record { state = c.self.invariant; idle = i; runs = sym c.is_stopped.ensures ∙ c.if-is_stopped.false })
    (λ k. clash _ (c.is_complete.ensures.1 k) c.if-is_complete.false) c.in-None.ensures.none
