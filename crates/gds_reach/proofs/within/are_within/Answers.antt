use Rattle.std.proofs.Common.{◌≡◌, inl, inr, ℕ, Option, Some, refl, sym, ap, subst, ◌∙◌, arith}
use Rattle.std.proofs.lemmas.Bool.{cases_eq}
use Rattle.std.proofs.lemmas.Grind.{common_steps}
use Rattle.std.specs.Global.{Vec}
use Rattle.gds_reach.specs.References.{named_in, IsNamed, Refers}
use Rattle.gds_reach.proofs.Paths.{named_here, stands_within}
use Rattle.gds_reach.proofs.within.are_within.Goals as goal

pub returns-then-not-all_below : goal.returns-then-not-all_below
returns-then-not-all_below c =
    let i = c.loop-named.named-index in
    let same : c.deref.result.now ≡ named_in c.args.links.now i = c.deref.ensures.value ∙ (ap (λ (v : Vec (Option ℕ)). v.items) c.named-item.is ∙ sym (named_here c.args.links.now i c.named-item.result c.loop-named-test.true)) in (
      λ e. absurd (grind (arith, common_steps)),
      λ within.
          let t = c.all_below.ensures.1 (λ j named. within i j (subst (λ xs. IsNamed xs j) same named)) in
          sym c.if-not-all_below.true ∙ t,
    )

pub loop-named-preserved : goal.loop-named-preserved
loop-named-preserved c = λ i j l refers.
    let n = c.loop-named.named-index in
    let same : c.deref.result.now ≡ named_in c.args.links.now n = c.deref.ensures.value ∙ (ap (λ (v : Vec (Option ℕ)). v.items) c.named-item.is ∙ sym (named_here c.args.links.now n c.named-item.result c.loop-named-test.true)) in
    elim (cases_eq i n) [
      | inl q ↦ c.all_below.ensures.0 (grind (common_steps, arith)) j (subst (λ xs. IsNamed xs j) (sym same) (subst (λ x. Refers c.args.links.now x j) q refers))
      | inr q ↦ c.loop-named.invariant i j (omega arith) refers
    ]

pub returns : goal.returns
returns c = (
  λ e i j refers. c.loop-named.invariant i j (let l = stands_within c.args.links.now i refers.0 (Some j) refers.1 in let t = c.loop-named-test.false in omega arith) refers,
  λ within. refl,
)
