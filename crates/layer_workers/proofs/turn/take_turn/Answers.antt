use Rattle.ledger_core.specs.Jobs.{setup_for}
use Rattle.layer_workers.proofs.Steps.{claimed_alone, worked_turn}
use Rattle.layer_workers.proofs.turn.take_turn.Goals as goal

pub work-requires-clause-alone : goal.work-requires-clause-alone
work-requires-clause-alone g c κs within =
    let e = c.in-Work.ensures in
    (claimed_alone (setup_for g.J.Job.wiring g.J.Job.cost_of g.J.Job.budget g.J.Job.workers) c.args.state.now c.claim.new.self c.args.seat c.in-Work.ticket c.requires.agrees c.requires.idle e.legal e.claims.0 e.claims.2).alone

pub returns-in-Work : goal.returns-in-Work
returns-in-Work g c =
    let e = c.in-Work.ensures in
    worked_turn (setup_for g.J.Job.wiring g.J.Job.cost_of g.J.Job.budget g.J.Job.workers) c.args.state.now c.claim.new.self c.work.new.state c.args.seat c.work.result c.in-Work.ticket c.requires.agrees c.requires.idle e.legal e.claims.0 e.claims.2 c.work.ensures
