use Rattle.std.proofs.Common.{◌≡◌, ◌<◌, ◌∷◌, length, Some, refl, sym, ◌∙◌, ap, arith}
use Rattle.layer_model.specs.Wirings.{input}
use Rattle.ledger_history.specs.declared.event.Event.TheVariants.{Claim}
use Rattle.ledger_core.specs.declared.condition.Condition.TheVariants.{Claimed}
use Rattle.ledger_core.specs.Jobs.{setup_for}
use Rattle.ledger_core.specs.States.{due}
use Rattle.ledger_core.proofs.Stocks.{ready_input_is_live, first_lent, second_lent}
use Rattle.ledger_core.proofs.Crews.{fits_claim}
use Rattle.ledger_core.proofs.States.{stocked_live, state_made}
use Rattle.ledger_core.proofs.state.State.take.Goals as goal

pub lend-first-requires-clause-some : goal.lend-first-requires-clause-some
lend-first-requires-clause-some g c = λ κs m j x e k.
    let s = setup_for g.J.Job.wiring g.J.Job.cost_of g.J.Job.budget g.J.Job.workers in
    let h = c.self.inside.table.events in
    let i = c.args.op in
    let en = rw (← c.self.view_is) at c.requires.enabled in
    let in0 : c.input-first.result ≡ input g.J.Job.wiring i 0 = c.input-first.ensures ∙ ap (λ x. input x i 0) (c.wires-wires.ensures.same ∙ c.self.invariant.wires) in
    stocked_live s h (due s h) c.self.inside.shelf j x c.self.invariant.stocked (ready_input_is_live s h i 0 j c.self.invariant.legal en.next.ready (sym in0 ∙ e)) k

pub lend-second-requires-clause-there : goal.lend-second-requires-clause-there
lend-second-requires-clause-there g c = λ κs m j e.
    let s = setup_for g.J.Job.wiring g.J.Job.cost_of g.J.Job.budget g.J.Job.workers in
    let h = c.self.inside.table.events in
    let i = c.args.op in
    let w = c.args.seat.worker in
    let en = rw (← c.self.view_is) at c.requires.enabled in
    let in0 : c.input-first.result ≡ input g.J.Job.wiring i 0 = c.input-first.ensures ∙ ap (λ x. input x i 0) (c.wires-wires.ensures.same ∙ c.self.invariant.wires) in
    let in1 : c.input-second.result ≡ input g.J.Job.wiring i 1 = c.input-second.ensures ∙ ap (λ x. input x i 1) (c.wires-wires.ensures.same ∙ c.self.invariant.wires) in
    let first = first_lent s h w i c.self.inside.shelf c.lend-first.new.self c.input-first.result in0 (en, c.self.invariant.legal) c.self.invariant.stocked (c.lend-first.ensures.stocks s (Claim w i ∷ h)) in
    let low : j < i = c.self.invariant.wiring.lower i 1 j (sym in1 ∙ e) in
    let there : i < length g.J.Job.wiring = en.next.ready.there in
    let all : length c.lend-first.new.self ≡ length g.J.Job.wiring = first.all in
    omega arith

pub lend-second-requires-clause-some : goal.lend-second-requires-clause-some
lend-second-requires-clause-some g c = λ κs m j x e k.
    let s = setup_for g.J.Job.wiring g.J.Job.cost_of g.J.Job.budget g.J.Job.workers in
    let h = c.self.inside.table.events in
    let i = c.args.op in
    let w = c.args.seat.worker in
    let en = rw (← c.self.view_is) at c.requires.enabled in
    let in0 : c.input-first.result ≡ input g.J.Job.wiring i 0 = c.input-first.ensures ∙ ap (λ x. input x i 0) (c.wires-wires.ensures.same ∙ c.self.invariant.wires) in
    let in1 : c.input-second.result ≡ input g.J.Job.wiring i 1 = c.input-second.ensures ∙ ap (λ x. input x i 1) (c.wires-wires.ensures.same ∙ c.self.invariant.wires) in
    let first = first_lent s h w i c.self.inside.shelf c.lend-first.new.self c.input-first.result in0 (en, c.self.invariant.legal) c.self.invariant.stocked (c.lend-first.ensures.stocks s (Claim w i ∷ h)) in
    stocked_live s (Claim w i ∷ h) _ c.lend-first.new.self j x first (ready_input_is_live s h i 1 j c.self.invariant.legal en.next.ready (sym in1 ∙ e)) k

pub invariant_of-self : goal.invariant_of-self
invariant_of-self g c =
    let s = setup_for g.J.Job.wiring g.J.Job.cost_of g.J.Job.budget g.J.Job.workers in
    let h = c.self.inside.table.events in
    let i = c.args.op in
    let w = c.args.seat.worker in
    let en = rw (← c.self.view_is) at c.requires.enabled in
    let in0 : c.input-first.result ≡ input g.J.Job.wiring i 0 = c.input-first.ensures ∙ ap (λ x. input x i 0) (c.wires-wires.ensures.same ∙ c.self.invariant.wires) in
    let in1 : c.input-second.result ≡ input g.J.Job.wiring i 1 = c.input-second.ensures ∙ ap (λ x. input x i 1) (c.wires-wires.ensures.same ∙ c.self.invariant.wires) in
    let first = first_lent s h w i c.self.inside.shelf c.lend-first.new.self c.input-first.result in0 (en, c.self.invariant.legal) c.self.invariant.stocked (c.lend-first.ensures.stocks s (Claim w i ∷ h)) in
    let second = second_lent s h w i c.lend-first.new.self c.lend-second.new.self c.input-second.result in1 first (c.lend-second.ensures.stocks s (Claim w i ∷ h)) in
    state_made s _ _ _ _ _ _ w (Claimed i) (Claim w i) c.self.invariant en refl c.make.ensures second (fits_claim s h w i (en, c.self.invariant.legal))
