use Rattle.std.proofs.Common.{◌≡◌, inl, inr, length, Option, Some, refl, sym, ap, subst, ◌∙◌, arith}
use Rattle.std.proofs.lemmas.Bool.{cases_eq}
use Rattle.std.proofs.lemmas.Option.{same_Some, slice_get_within, slice_get_read}
use Rattle.std.specs.Prelude.{slice_get}
use Rattle.std.specs.Borrow.{Bor}
use Rattle.drc_num.specs.Fractions.{Fraction}
use Rattle.deck_tree.specs.KnownNames.{names_of}
use Rattle.deck_tree.specs.declared.name_at.NameAt.{NameAt}
use Rattle.deck_graph.specs.Graphs.{number_for}
use Rattle.deck_worths.specs.Worths.{worth_at, names_at}
use Rattle.deck_worths.proofs.Naming.{told_now, told_still, told_more, all_told}
use Rattle.deck_worths.proofs.known.known.Goals as goal

pub loop-name-preserved : goal.loop-name-preserved
loop-name-preserved c =
    let all = c.args.graph.now.definitions in
    let old = names_of c.loop-name.vars in
    let new = names_of c.tell.new.vars in
    let known = names_at all c.args.worths.now c.args.from in
    let item = c.name-item.result in
    let here : slice_get c.args.used.now c.loop-name.name-index ≡ Some item =
    slice_get_read c.args.used.now (length c.args.used.now) c.loop-name.name-index item refl c.loop-name-test.true c.name-item.is in
    let is : known item.now.name ≡ Some c.name_worth-worth.result =
    ap (λ (o : Option Fraction). Some o) (sym (c.name_worth-worth.ensures ∙ ap (λ q. worth_at c.args.worths.now (number_for all c.args.from q)) c.bytes.ensures)) in
    let told = c.in_ok-tell.ensures.told in
    let kept = c.in_ok-tell.ensures.kept in
    let others = c.in_ok-tell.ensures.others in
    let now = told_now old new known item.now.name c.name_worth-worth.result is told kept others c.loop-name.invariant.0 in (
      told_more old new known item.now.name c.name_worth-worth.result is told kept others c.loop-name.invariant.0,
      λ k x l e.
          elim (cases_eq k c.loop-name.name-index) [
            | inl same ↦
                let one : item ≡ x = same_Some _ _ (sym here ∙ (ap (slice_get c.args.used.now) (sym same) ∙ e)) in
                subst (λ (y : Bor NameAt). new y.now.name ≡ known y.now.name) one now
            | inr other ↦
                told_still old new known item.now.name c.name_worth-worth.result is told kept others c.loop-name.invariant.0 x.now.name
                (c.loop-name.invariant.1 k x (omega (arith, l, other)) e)
          ],
    )

pub returns : goal.returns
returns c =
    all_told (λ (x : NameAt). names_of c.loop-name.vars x.name ≡ names_at c.args.graph.now.definitions c.args.worths.now c.args.from x.name) c.args.used.now
    (λ k x e. let w = slice_get_within c.args.used.now k x e in let t = c.loop-name-test.false in c.loop-name.invariant.1 k x (omega (arith, w, t)) e)
