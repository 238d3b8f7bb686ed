use Rattle.std.proofs.Common.{refl, ap, subst}
use Rattle.ledger_history.specs.declared.event.Event.TheVariants.{Release}
use Rattle.ledger_core.specs.declared.condition.Condition.TheVariants.{Idle, Published}
use Rattle.ledger_core.specs.Jobs.{setup_for}
use Rattle.layer_workers.specs.Working.Alone.{Worked}
use Rattle.layer_workers.proofs.Steps.{went_nowhere, went_further, worked_after, released_alone}
use Rattle.layer_workers.proofs.turn.+release_all.Goals as goal

pub release_all-requires-after_bounds : goal.release_all-requires-after_bounds
release_all-requires-after_bounds g t c κs within =
    let e = c.in-More.ensures in
    (released_alone (setup_for g.J.Job.wiring g.J.Job.cost_of g.J.Job.budget g.J.Job.workers) c.args.published c.in-More.published c.args.state.now c.release.new.self c.requires e.0 e.1 e.3).alone

pub returns-in-Idle : goal.returns-in-Idle
returns-in-Idle g t c =
    let s = setup_for g.J.Job.wiring g.J.Job.cost_of g.J.Job.budget g.J.Job.workers in
    let p = c.args.published in
    let e = c.in-Idle.ensures in
    record {
      worker = e.0;
      went = went_further s p.worker c.args.state.now c.args.state.now c.release.new.self (Published p.op p.released) Idle (Release p.worker p.op p.released)
          (went_nowhere s p.worker c.args.state.now (Published p.op p.released) c.requires) refl e.1 e.3;
    }

pub returns-in-More : goal.returns-in-More
returns-in-More g t c =
    let s = setup_for g.J.Job.wiring g.J.Job.cost_of g.J.Job.budget g.J.Job.workers in
    let p = c.in-More.published in
    let e = c.in-More.ensures in
    let went = released_alone s c.args.published p c.args.state.now c.release.new.self c.requires e.0 e.1 e.3 in
    subst (λ w. Worked s w c.args.state.now c.release_all.result c.release_all.new.state) (ap (λ x. x.worker) e.0)
    (worked_after s p.worker p.worker c.args.state.now c.release.new.self c.release_all.new.state (Published p.op p.released) c.release_all.result went refl c.release_all.ensures)
