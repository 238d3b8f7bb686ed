use Rattle.std.proofs.Common.{true, false, subst}
use Rattle.ledger_core.specs.Jobs.{setup_for}
use Rattle.layer_workers.specs.Outcomes.{first_worker, GoesOnBy}
use Rattle.layer_workers.proofs.Steps.{first_is, first_agrees, run_recorded, stop_recorded}
use Rattle.layer_workers.proofs.driver.drive.Goals as goal

pub take_all_turns-requires-clause-agrees : goal.take_all_turns-requires-clause-agrees
take_all_turns-requires-clause-agrees g c κs within = first_agrees c.args.state c.args.seats.items c.remove-seat.result c.requires.some c.remove-seat.ensures.value c.requires.first

pub returns-in-Finished : goal.returns-in-Finished
returns-in-Finished g c =
    let s = setup_for g.J.Job.wiring g.J.Job.cost_of g.J.Job.budget g.J.Job.workers in
    let w = first_worker c.args.seats.items in
    let before = c.args.state.events in
    let after = c.take_all_turns.new.state.events in
    let e = c.in-Finished.ensures in
    let goes = subst (λ v. GoesOnBy v before after) (first_is c.args.seats.items c.remove-seat.result c.requires.some c.remove-seat.ensures.value) e.0 in
    let r = c.collect.ensures in
    (run_recorded s w before after c.collect.result.history r.history goes, r.complete, stop_recorded s after c.collect.result.history false r.history e.2)

pub returns : goal.returns
returns g c =
    let s = setup_for g.J.Job.wiring g.J.Job.cost_of g.J.Job.budget g.J.Job.workers in
    let w = first_worker c.args.seats.items in
    let before = c.args.state.events in
    let after = c.take_all_turns.new.state.events in
    let e = c.in-Stopped.ensures in
    let goes = subst (λ v. GoesOnBy v before after) (first_is c.args.seats.items c.remove-seat.result c.requires.some c.remove-seat.ensures.value) e.0 in
    (run_recorded s w before after c.into_history.result c.into_history.ensures goes, stop_recorded s after c.into_history.result true c.into_history.ensures e.1)
