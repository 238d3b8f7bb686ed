use Rattle.std.proofs.Common.{◌≡◌, subst, sym, arith}
use Rattle.ledger_core.specs.Jobs.{setup_for}
use Rattle.ledger_core.proofs.States.{state_dropped}
use Rattle.ledger_core.proofs.state.State.drop_operation.Goals as goal

pub invariant_of-self : goal.invariant_of-self
invariant_of-self g c =
    state_dropped (setup_for g.J.Job.wiring g.J.Job.cost_of g.J.Job.budget g.J.Job.workers) _ _ _ _ c.into_seat-seat.result.worker c.self.invariant (rw (← c.self.view_is) at c.requires.stopped)
