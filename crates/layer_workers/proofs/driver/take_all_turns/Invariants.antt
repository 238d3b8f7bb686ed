use Rattle.std.proofs.Common.{◌+◌, ◌-◌, ◌*◌, length}
use Rattle.layer_workers.specs.Working.Alone.{TakesTurns}
use Rattle.layer_workers.proofs.driver.take_all_turns.Given as goal

abbrev pub invariant-loop-next : goal.invariant-loop-next
invariant-loop-next g l = TakesTurns l.initial.seat.worker l.initial.state l.state l.seat

abbrev pub decreases-loop-next : goal.decreases-loop-next
decreases-loop-next g l = 5 * length g.J.Job.wiring + g.J.Job.workers - length l.state.events
