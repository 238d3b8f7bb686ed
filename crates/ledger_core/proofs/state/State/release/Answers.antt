use Rattle.std.proofs.Common.{◌≡◌, ◌<◌, ◌+◌, ◌∷◌, length, set, cond, Some, refl, sym, ◌∙◌, ap, subst, arith}
use Rattle.layer_model.specs.Wirings.{input, input_count}
use Rattle.ledger_history.specs.declared.event.Event.TheVariants.{Release}
use Rattle.ledger_history.specs.Histories.{is_let_go}
use Rattle.ledger_table.specs.Ledgers.{setup_of}
use Rattle.ledger_table.specs.Marks.{wired}
use Rattle.ledger_core.specs.Jobs.{setup_for}
use Rattle.ledger_core.specs.Working.Turns.{condition_at}
use Rattle.ledger_table.proofs.Totals.{place_reads}
use Rattle.ledger_core.proofs.Stocks.{stocks_release}
use Rattle.ledger_core.proofs.Turns.{end_of_release, fits_after_release, releases_by}
use Rattle.ledger_core.proofs.States.{allowed, may_release, state_made, worker_there}
use Rattle.ledger_core.proofs.state.State.release.Goals as goal

pub make-requires : goal.make-requires
make-requires g c =
    let e = rw (← c.self.view_is, ← c.published.view_is) at c.requires in
    allowed (setup_for g.J.Job.wiring g.J.Job.cost_of g.J.Job.budget g.J.Job.workers) _ _ _ _ (Release c.published.inside.worker c.published.inside.op c.published.inside.released) c.self.invariant
    (may_release (setup_for g.J.Job.wiring g.J.Job.cost_of g.J.Job.budget g.J.Job.workers) _ _ _ _ c.published.inside.worker c.published.inside.op c.published.inside.released c.self.invariant e c.published.invariant.0)

pub invariant_of-self : goal.invariant_of-self
invariant_of-self g c =
    let s = setup_for g.J.Job.wiring g.J.Job.cost_of g.J.Job.budget g.J.Job.workers in
    let h = c.self.inside.table.events in
    let w = c.published.inside.worker in
    let i = c.published.inside.op in
    let k = c.published.inside.released in
    let e = rw (← c.self.view_is, ← c.published.view_is) at c.requires in
    let a = may_release s _ _ _ _ w i k c.self.invariant e c.published.invariant.0 in
    let r = place_reads g.J.Job.wiring i k c.self.invariant.wiring c.published.invariant.0 in
    let read : c.input-read.result ≡ Some r.0 = c.input-read.ensures ∙ (ap (λ x. input x i k) (c.wires.ensures.same ∙ c.self.invariant.wires) ∙ r.1) in
    let gone : is_let_go (setup_of c.make.new.self) c.make.new.self.events r.0 ≡ is_let_go s (Release w i k ∷ h) r.0 =
    ap (λ u. is_let_go (setup_of u) u.events r.0) c.make.ensures ∙ ap (λ x. is_let_go (wired x) (Release w i k ∷ h) r.0) c.self.invariant.wires in
    let shelf = c.let_go.ensures r.0 read ∙ ap (λ b. cond b (set c.self.inside.shelf r.0 (record { op = r.0; count = 0 })) c.self.inside.shelf) gone in
    let wires = c.wires-wires.ensures.same ∙ (ap (λ t. t.wires) c.make.ensures ∙ c.self.invariant.wires) in
    rw (c.condition_at.ensures, wires, shelf)
    (state_made s _ _ _ _ _ _ w (condition_at g.J.Job.wiring i (k + 1)) (Release w i k) c.self.invariant a refl c.make.ensures
    (stocks_release s h w i k r.0 _ c.self.invariant.wiring (a, c.self.invariant.legal) r.1 c.self.invariant.stocked) (fits_after_release s h w i k c.self.invariant.wiring (a, c.self.invariant.legal)))

pub returns : goal.returns
returns g c =
    let s = setup_for g.J.Job.wiring g.J.Job.cost_of g.J.Job.budget g.J.Job.workers in
    let h = c.self.inside.table.events in
    let w = c.published.inside.worker in
    let i = c.published.inside.op in
    let k = c.published.inside.released in
    let e = rw (← c.self.view_is, ← c.published.view_is) at c.requires in
    let a = may_release s _ _ _ _ w i k c.self.invariant e c.published.invariant.0 in
    let wires = c.wires-wires.ensures.same ∙ (ap (λ t. t.wires) c.make.ensures ∙ c.self.invariant.wires) in
    rw (← c.self.view_is, ← c.published.view_is, c.make.ensures, c.condition_at.ensures, wires)
    (releases_by s (record { events = h; crew = c.self.inside.crew.items }) _ (record { worker = w; op = i; released = k }) c.given.result (end_of_release s h w i k c.self.invariant.wiring (a, c.self.invariant.legal)) a refl c.given.ensures)
