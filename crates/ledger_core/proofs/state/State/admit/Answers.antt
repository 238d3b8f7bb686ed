use Rattle.std.proofs.Common.{◌≡◌, refl, arith}
use Rattle.ledger_history.specs.declared.event.Event.TheVariants.{Charge}
use Rattle.ledger_core.specs.declared.condition.Condition.TheVariants.{Charged}
use Rattle.ledger_core.specs.Jobs.{setup_for}
use Rattle.ledger_core.proofs.Crews.{fits_charge}
use Rattle.ledger_core.proofs.Stocks.{stocks_same}
use Rattle.ledger_core.proofs.States.{state_made}
use Rattle.ledger_core.proofs.state.State.admit.Goals as goal

pub invariant_of-self : goal.invariant_of-self
invariant_of-self g c =
    let s = setup_for g.J.Job.wiring g.J.Job.cost_of g.J.Job.budget g.J.Job.workers in
    let h = c.self.inside.table.events in
    let w = c.ticket.inside.worker in
    let i = c.ticket.inside.op in
    let a = rw (← c.self.view_is, ← c.ticket.view_is) at c.requires.enabled in
    state_made s _ _ _ _ _ _ w (Charged i) (Charge w i c.args.cost) c.self.invariant a refl c.make.ensures
    (stocks_same s h (Charge w i c.args.cost) _ (λ _. refl) (λ _. refl) c.self.invariant.stocked) (fits_charge s h w i c.args.cost (a, c.self.invariant.legal))
