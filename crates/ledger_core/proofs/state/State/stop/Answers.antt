use Rattle.std.proofs.Common.{◌≡◌, ◌<◌, length, refl, sym, subst, arith}
use Rattle.ledger_history.specs.declared.event.Event.TheVariants.{Stop}
use Rattle.ledger_core.specs.declared.condition.Condition.TheVariants.{Idle}
use Rattle.ledger_core.specs.Jobs.{setup_for}
use Rattle.ledger_core.proofs.Crews.{fits_stop}
use Rattle.ledger_core.proofs.Stocks.{stocks_same}
use Rattle.ledger_core.proofs.States.{allowed, may_stop, state_made, worker_there}
use Rattle.ledger_core.proofs.state.State.stop.Goals as goal

pub make-requires : goal.make-requires
make-requires g c =
    let e = rw (← c.self.view_is) at c.requires in
    rw c.into_seat-seat.ensures (allowed (setup_for g.J.Job.wiring g.J.Job.cost_of g.J.Job.budget g.J.Job.workers) _ _ _ _ (Stop c.args.ticket.worker) c.self.invariant (may_stop (setup_for g.J.Job.wiring g.J.Job.cost_of g.J.Job.budget g.J.Job.workers) _ _ _ _ c.args.ticket.worker c.args.ticket.op c.self.invariant e))

pub index_mut-requires : goal.index_mut-requires
index_mut-requires g c =
    let e = rw (← c.self.view_is) at c.requires in
    let b : c.args.ticket.worker < length c.self.inside.crew.items = worker_there (setup_for g.J.Job.wiring g.J.Job.cost_of g.J.Job.budget g.J.Job.workers) c.self.inside.table c.self.inside.readers.items c.self.inside.shelf c.self.inside.crew.items c.args.ticket.worker _ e in
    let n = c.into_seat-seat.ensures in
    grind arith

pub invariant_of-self : goal.invariant_of-self
invariant_of-self g c =
    let s = setup_for g.J.Job.wiring g.J.Job.cost_of g.J.Job.budget g.J.Job.workers in
    let h = c.self.inside.table.events in
    let w = c.args.ticket.worker in
    let e = rw (← c.self.view_is) at c.requires in
    let m = rw c.into_seat-seat.ensures at c.make.ensures in
    rw c.into_seat-seat.ensures
    (state_made s _ _ _ _ _ _ w Idle (Stop w) c.self.invariant (may_stop s _ _ _ _ w c.args.ticket.op c.self.invariant e) refl m
    (stocks_same s h (Stop w) _ (λ _. refl) (λ _. refl) c.self.invariant.stocked) (fits_stop s h w))

pub returns : goal.returns
returns g c =
    let e = rw (← c.self.view_is) at c.requires in
    record {
      worker = c.into_seat-seat.ensures;
      enabled = rw (← c.self.view_is) (may_stop (setup_for g.J.Job.wiring g.J.Job.cost_of g.J.Job.budget g.J.Job.workers) _ _ _ _ c.args.ticket.worker c.args.ticket.op c.self.invariant e);
      machine = rw (← c.self.view_is, c.make.ensures, c.into_seat-seat.ensures) refl;
    }
