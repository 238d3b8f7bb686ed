use Rattle.std.proofs.Common.{refl, ◌∙◌, ap, subst}
use Rattle.ledger_history.specs.declared.event.Event.TheVariants.{Publish}
use Rattle.ledger_core.specs.declared.condition.Condition.TheVariants.{Idle, Claimed, Charged, Published}
use Rattle.ledger_core.specs.Jobs.{setup_for}
use Rattle.layer_workers.specs.Working.Alone.{Worked}
use Rattle.layer_workers.proofs.Steps.{went_nowhere, went_further, went_dropped, worked_after, charged_alone, published_alone}
use Rattle.layer_workers.proofs.turn.finish.Goals as goal

pub release_all-requires-after_bounds : goal.release_all-requires-after_bounds
release_all-requires-after_bounds g c κs within =
    let s = setup_for g.J.Job.wiring g.J.Job.cost_of g.J.Job.budget g.J.Job.workers in
    let d = c.in-Charged.ensures in
    let e = c.in-More.ensures in
    let went = charged_alone s c.args.ticket c.in-Charged.charged c.args.state.now c.charge.new.self c.args.computed.cost c.requires.alone d.0 d.1 d.2 in
    (published_alone s c.in-Charged.charged c.in-More.published c.args.state.now c.charge.new.self c.publish.new.self went e.0 e.1 e.3).alone

pub returns-in-Idle : goal.returns-in-Idle
returns-in-Idle g c =
    let s = setup_for g.J.Job.wiring g.J.Job.cost_of g.J.Job.budget g.J.Job.workers in
    let h = c.in-Charged.charged in
    let d = c.in-Charged.ensures in
    let e = c.in-Idle.ensures in
    let went = charged_alone s c.args.ticket h c.args.state.now c.charge.new.self c.args.computed.cost c.requires.alone d.0 d.1 d.2 in
    subst (λ w. Worked s w c.args.state.now c.in-Idle.seat c.publish.new.self) (ap (λ x. x.worker) d.0)
    (record {
      worker = e.0;
      went = went_further s h.worker c.args.state.now c.charge.new.self c.publish.new.self (Charged h.op) Idle (Publish h.worker h.op) went refl e.1 e.3;
    })

pub returns-in-More : goal.returns-in-More
returns-in-More g c =
    let s = setup_for g.J.Job.wiring g.J.Job.cost_of g.J.Job.budget g.J.Job.workers in
    let p = c.in-More.published in
    let d = c.in-Charged.ensures in
    let e = c.in-More.ensures in
    let charged = charged_alone s c.args.ticket c.in-Charged.charged c.args.state.now c.charge.new.self c.args.computed.cost c.requires.alone d.0 d.1 d.2 in
    let went = published_alone s c.in-Charged.charged p c.args.state.now c.charge.new.self c.publish.new.self charged e.0 e.1 e.3 in
    subst (λ w. Worked s w c.args.state.now c.release_all.result c.release_all.new.state) (ap (λ x. x.worker) e.0 ∙ ap (λ x. x.worker) d.0)
    (worked_after s p.worker p.worker c.args.state.now c.publish.new.self c.release_all.new.state (Published p.op p.released) c.release_all.result went refl c.release_all.ensures)

pub returns-in-Stopped : goal.returns-in-Stopped
returns-in-Stopped g c =
    let s = setup_for g.J.Job.wiring g.J.Job.cost_of g.J.Job.budget g.J.Job.workers in
    let t = c.args.ticket in
    let e = c.in-Stopped.ensures in
    record {
      worker = e.0;
      went = went_dropped s t.worker c.args.state.now c.args.state.now c.charge.new.self (Claimed t.op) (went_nowhere s t.worker c.args.state.now (Claimed t.op) c.requires.alone) e.2;
    }
