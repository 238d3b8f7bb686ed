use Rattle.std.proofs.Common.{◌≡◌, length, sym, ◌∙◌, ap, subst}
use Rattle.layer_model.specs.Wirings.{CountsReaders, IsWiring}
use Rattle.ledger_core.specs.Jobs.{setup_for}
use Rattle.ledger_core.proofs.States.{state_starts}
use Rattle.ledger_core.proofs.state.State.new.Goals as goal

pub invariant_of-state : goal.invariant_of-state
invariant_of-state g c =
    let table = rw (c.requires.wiring, c.requires.budget, c.requires.workers) at c.in_ok-table.ensures in
    let v = subst (λ w. IsWiring w) c.requires.wiring c.list.ensures.formed in
    let counted = subst (λ w. CountsReaders w c.in_ok-readers.readers.items) (c.list.ensures.same ∙ c.requires.wiring) c.in_ok-readers.ensures in
    let all = c.in_ok-shelf.ensures.all ∙ ap length (c.list-2.ensures.same ∙ c.requires.wiring) in
    let crew = rw c.requires.workers at c.in_ok-crew.ensures in
    state_starts (setup_for g.J.Job.wiring g.J.Job.cost_of g.J.Job.budget g.J.Job.workers) _ _ _ _ table v counted all c.in_ok-shelf.ensures.none crew
