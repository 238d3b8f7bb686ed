use Rattle.std.proofs.Common.{◌≡◌, ◌+◌, ◌<◌, ℕ, List, length, set, get_or, Option, Some, sym, ap, subst, ◌∙◌, arith}
use Rattle.std.proofs.lemmas.List.{length-map}
use Rattle.std.proofs.lemmas.Option.{slice_get-get_or}
use Rattle.std.specs.Prelude.{slice_get}
use Rattle.drc_num.specs.Fractions.{Fraction}
use Rattle.deck_order.specs.Orders.{ListsEach}
use Rattle.deck_definitions.specs.Definitions.{Entry, entry_of, meaning_of}
use Rattle.deck_worths.specs.Working.SoFar.{IsSoFar, meaning_worth}
use Rattle.deck_worths.proofs.SoFar.{one_more, all_done, uses_length, shown_at}
use Rattle.deck_worths.proofs.worths.worths_in_order.Goals as goal

pub loop-number-preserved : goal.loop-number-preserved
loop-number-preserved c =
    let all = c.args.graph.now.definitions in
    let ds = c.definitions-definitions.result.now in
    let listed = c.args.listed.now in
    let n = c.loop-number.number-index in
    let i = get_or listed n 0 in
    let d = c.index-definitions-place.result in
    let worths = c.loop-number.worths.items in
    let each : ListsEach (length all) listed = subst (λ (m : ℕ). ListsEach m listed) (uses_length all c.requires.uses c.requires.are) c.requires.each in
    let at : slice_get listed n ≡ Some i = slice_get-get_or listed n 0 c.loop-number-test.true in
    let low : i < length all = each.below n i at in
    let size : length all ≡ length ds = ap length (sym c.definitions-definitions.ensures.all) ∙ length-map ds entry_of in
    let is : slice_get all i ≡ Some (entry_of d) = subst (λ (those : List Entry). slice_get those i ≡ Some (entry_of d)) c.definitions-definitions.ensures.all (shown_at ds i d (omega (arith, low, size)) c.index-definitions-place.is) in
    let found : c.in_ok-worths-2.field-0 ≡ meaning_worth all worths d.scope (meaning_of d.body) =
    c.in_ok-worths-2.ensures ∙ ap (λ (ws : List (Option Fraction)). meaning_worth all ws d.scope (meaning_of d.body)) c.deref.ensures.value in
    subst (λ (w : Option Fraction). IsSoFar all listed (n + 1) (set worths i w)) (sym found)
    (one_more all c.requires.uses c.requires.are listed each c.requires.behind n i (entry_of d) worths c.loop-number.invariant at is)

pub returns : goal.returns
returns c =
    let all = c.args.graph.now.definitions in
    let uses = c.requires.uses in
    let listed = c.args.listed.now in
    let each : ListsEach (length all) listed = subst (λ (m : ℕ). ListsEach m listed) (uses_length all uses c.requires.are) c.requires.each in
    all_done all uses c.requires.are listed each c.requires.behind c.loop-number.worths.items c.loop-number.number-index c.loop-number-test.false c.loop-number.invariant
