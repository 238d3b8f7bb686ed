use Rattle.ledger_core.specs.Jobs.{setup_for}
use Rattle.layer_workers.proofs.Steps.{takes_first, takes_another, less_room}
use Rattle.layer_workers.proofs.driver.take_all_turns.Goals as goal

pub loop-next-init : goal.loop-next-init
loop-next-init g c = takes_first c.args.state.now c.args.seat c.requires.agrees c.requires.idle

pub loop-next-preserved : goal.loop-next-preserved
loop-next-preserved g c =
    takes_another (setup_for g.J.Job.wiring g.J.Job.cost_of g.J.Job.budget g.J.Job.workers) c.args.seat.worker c.args.state.now c.loop-next.state c.take_turn.new.state c.loop-next.seat c.in-Worked.next c.loop-next.invariant c.in-Worked.ensures

pub loop-next-smaller : goal.loop-next-smaller
loop-next-smaller g c =
    less_room (setup_for g.J.Job.wiring g.J.Job.cost_of g.J.Job.budget g.J.Job.workers) c.loop-next.state.events c.take_turn.new.state.events c.in-Worked.ensures.legal c.in-Worked.ensures.some
