use Rattle.std.proofs.Common.{◌≡◌, inl, inr, ℕ, refl, sym, ap, ◌∙◌, arith}
use Rattle.std.proofs.lemmas.Bool.{cases_eq, cases_lt}
use Rattle.std.proofs.lemmas.Grind.{common_steps}
use Rattle.std.specs.Prelude.{slice_get}
use Rattle.std.specs.Global.{Vec}
use Rattle.deck_order.specs.Uses.{used_by}
use Rattle.deck_order.proofs.Lasts.{used_here, used_past}
use Rattle.deck_order.proofs.within.are_within.Goals as goal

pub returns-then-not-all_below : goal.returns-then-not-all_below
returns-then-not-all_below c =
    let i = c.loop-used.used-index in
    let same : c.deref.result.now ≡ used_by c.args.uses.now i = c.deref.ensures.value ∙ (ap (λ (v : Vec ℕ). v.items) c.used-item.is ∙ sym (used_here c.args.uses.now i c.used-item.result c.loop-used-test.true)) in (
      λ e. absurd (grind (arith, common_steps)),
      λ within.
          let t = c.all_below.ensures.1 (λ k j e. within i j (k, ap (λ xs. slice_get xs k) (sym same) ∙ e)) in
          sym c.if-not-all_below.true ∙ t,
    )

pub loop-used-preserved : goal.loop-used-preserved
loop-used-preserved c = λ i j l z.
    let n = c.loop-used.used-index in
    let same : c.deref.result.now ≡ used_by c.args.uses.now n = c.deref.ensures.value ∙ (ap (λ (v : Vec ℕ). v.items) c.used-item.is ∙ sym (used_here c.args.uses.now n c.used-item.result c.loop-used-test.true)) in
    elim (cases_eq i n) [
      | inl q ↦ c.all_below.ensures.0 (grind (common_steps, arith)) z.0 j (ap (λ xs. slice_get xs z.0) same ∙ (ap (λ x. slice_get (used_by c.args.uses.now x) z.0) (sym q) ∙ z.1))
      | inr q ↦ c.loop-used.invariant i j (omega arith) z
    ]

pub returns : goal.returns
returns c = (
  λ e i j z. elim (cases_lt i c.loop-used.used-index) [
    | inl l ↦ c.loop-used.invariant i j l z
    | inr l ↦ absurd (used_past c.args.uses.now i z.0 j (let t = c.loop-used-test.false in omega arith) z.1)
  ],
  λ w. refl,
)
