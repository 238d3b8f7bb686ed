use Rattle.std.proofs.Common.{refl}
use Rattle.ledger_history.specs.declared.event.Event.TheVariants.{Stop}
use Rattle.ledger_core.specs.declared.condition.Condition.TheVariants.{Idle, Claimed}
use Rattle.ledger_core.specs.Jobs.{setup_for}
use Rattle.layer_workers.proofs.Steps.{went_nowhere, went_further}
use Rattle.layer_workers.proofs.turn.work.Goals as goal

pub returns-in-Err : goal.returns-in-Err
returns-in-Err g c =
    let s = setup_for g.J.Job.wiring g.J.Job.cost_of g.J.Job.budget g.J.Job.workers in
    let t = c.args.ticket in
    record {
      worker = c.stop.ensures.worker;
      went = went_further s t.worker c.args.state.now c.args.state.now c.stop.new.self (Claimed t.op) Idle (Stop t.worker)
          (went_nowhere s t.worker c.args.state.now (Claimed t.op) c.requires.alone) refl c.stop.ensures.enabled c.stop.ensures.machine;
    }
