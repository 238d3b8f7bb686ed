use Rattle.std.proofs.Common.{◌≡◌, ◌<◌, ◌+◌, length, set, refl, sym, ◌∙◌, ap, subst, arith}
use Rattle.layer_model.specs.Wirings.{reader_count}
use Rattle.ledger_history.specs.declared.event.Event.TheVariants.{Publish}
use Rattle.ledger_core.specs.Jobs.{setup_for}
use Rattle.ledger_core.specs.Working.Turns.{condition_at}
use Rattle.ledger_core.proofs.Stocks.{stocks_publish}
use Rattle.ledger_core.proofs.Turns.{end_of_publish, fits_after_publish, publishes_by}
use Rattle.ledger_core.proofs.States.{allowed, may_publish, state_made, worker_there}
use Rattle.ledger_core.proofs.state.State.publish.Goals as goal

pub make-requires : goal.make-requires
make-requires g c =
    let e = rw (← c.self.view_is, ← c.charged.view_is) at c.requires.agrees in
    allowed (setup_for g.J.Job.wiring g.J.Job.cost_of g.J.Job.budget g.J.Job.workers) _ _ _ _ (Publish c.charged.inside.worker c.charged.inside.op) c.self.invariant (may_publish (setup_for g.J.Job.wiring g.J.Job.cost_of g.J.Job.budget g.J.Job.workers) _ _ _ _ c.charged.inside.worker c.charged.inside.op c.self.invariant e)

pub index_mut-requires : goal.index_mut-requires
index_mut-requires g c =
    let e = rw (← c.self.view_is, ← c.charged.view_is) at c.requires.agrees in
    let b : c.charged.inside.worker < length c.self.inside.crew.items = worker_there (setup_for g.J.Job.wiring g.J.Job.cost_of g.J.Job.budget g.J.Job.workers) c.self.inside.table c.self.inside.readers.items c.self.inside.shelf c.self.inside.crew.items c.charged.inside.worker _ e in
    grind arith

pub invariant_of-self : goal.invariant_of-self
invariant_of-self g c =
    let s = setup_for g.J.Job.wiring g.J.Job.cost_of g.J.Job.budget g.J.Job.workers in
    let h = c.self.inside.table.events in
    let w = c.charged.inside.worker in
    let i = c.charged.inside.op in
    let e = rw (← c.self.view_is, ← c.charged.view_is) at c.requires.agrees in
    let a = may_publish s _ _ _ _ w i c.self.invariant e in
    let o = rw (← c.charged.view_is) at c.requires.copies in
    let wires = c.wires-wires.ensures.same ∙ (ap (λ t. t.wires) c.make.ensures ∙ c.self.invariant.wires) in
    rw (c.condition_at.ensures, wires, c.put.ensures, o)
    (state_made s _ _ _ _ _ _ w (condition_at g.J.Job.wiring i 0) (Publish w i) c.self.invariant a refl c.make.ensures
    (stocks_publish s h w i _ c.self.invariant.wiring (a, c.self.invariant.legal) c.self.invariant.stocked) (fits_after_publish s h w i c.self.invariant.wiring (a, c.self.invariant.legal)))

pub given-requires-clause-wires : goal.given-requires-clause-wires
given-requires-clause-wires g c = λ κs m. c.wires-wires.ensures.same ∙ (ap (λ t. t.wires) c.make.ensures ∙ c.self.invariant.wires)

pub returns : goal.returns
returns g c =
    let s = setup_for g.J.Job.wiring g.J.Job.cost_of g.J.Job.budget g.J.Job.workers in
    let h = c.self.inside.table.events in
    let w = c.charged.inside.worker in
    let i = c.charged.inside.op in
    let e = rw (← c.self.view_is, ← c.charged.view_is) at c.requires.agrees in
    let a = may_publish s _ _ _ _ w i c.self.invariant e in
    let wires = c.wires-wires.ensures.same ∙ (ap (λ t. t.wires) c.make.ensures ∙ c.self.invariant.wires) in
    rw (← c.self.view_is, ← c.charged.view_is, c.make.ensures, c.condition_at.ensures, wires)
    (publishes_by s (record { events = h; crew = c.self.inside.crew.items }) _ (record { worker = w; op = i }) c.given.result (end_of_publish s h w i c.self.invariant.wiring (a, c.self.invariant.legal)) a refl c.given.ensures)
