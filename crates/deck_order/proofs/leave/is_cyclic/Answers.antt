use Rattle.std.proofs.Common.{◌≡◌, inl, inr, ℕ, ◌∙◌, sym, ap}
use Rattle.std.specs.Prelude.{slice_get}
use Rattle.std.specs.Global.{Vec}
use Rattle.deck_order.specs.Uses.{used_by}
use Rattle.deck_order.proofs.Lasts.{any_from_has, has_from_any, used_here}
use Rattle.deck_order.proofs.leave.is_cyclic.Goals as goal

pub returns-else-count-step : goal.returns-else-count-step
returns-else-count-step c =
    let i = c.args.step.definition in
    let same : c.deref-used.result.now ≡ used_by c.args.uses.now i = c.deref-used.ensures.value ∙ (ap (λ (v : Vec ℕ). v.items) c.index-uses-step.is ∙ sym (used_here c.args.uses.now i c.index-uses-step.result c.requires.there)) in (
      λ e. inr (let (k, p) = has_from_any c.deref-used.result.now i (sym c.contains.ensures.value ∙ e) in (k, ap (λ xs. slice_get xs k) (sym same) ∙ p)),
      λ either. elim either [
        | inl more ↦ absurd (more c.if-count-step.false)
        | inr (k, p) ↦ c.contains.ensures.value ∙ any_from_has c.deref-used.result.now k i (ap (λ xs. slice_get xs k) same ∙ p)
      ],
    )
