use Rattle.std.proofs.Common.{◌≡◌, ◌++◌, ℤ, cond, pos, get_or, w64, rules, sym, subst, ap, ◌∙◌}
use Rattle.std.proofs.lemmas.Int.{to_z-of_z}
use Rattle.std.proofs.lemmas.List.{take_all}
use mir.Val.{SFits}
use Rattle.list_facts.specs.Between.{between}
use Rattle.list_facts.proofs.Members.{all_weaker}
use Rattle.row_state.specs.Entries.{value_from}
use Rattle.row_state.specs.Pieces.{Tile}
use Rattle.region_form.specs.declared.flip.Flip.{Flip}
use Rattle.region_form.specs.Flips.{AreSorted, squares}
use Rattle.region_rects.specs.declared.stretch.Stretch.TheVariants.{None}
use Rattle.region_rects.specs.Canonical.{IsCanonical}
use Rattle.region_rects.specs.Working.Joins.{joined}
use Rattle.region_rects.specs.Working.Stretches.{ended, passed}
use Rattle.region_rects.proofs.Canonical.{cut, told_start, told_step}
use Rattle.region_rects.proofs.Joins.{differ_joined, tile_joined}
use Rattle.region_rects.proofs.Listed.{canonical_same}
use Rattle.region_rects.proofs.Sweeping.{IsSwept, all_covered}
use Rattle.region_rects.proofs.ended.all_ended.Goals as goal

pub loop-flip-init : goal.loop-flip-init
loop-flip-init c = rw (c.new-row.ensures, c.in_ok-rects.ensures.items) (told_start c.as_slice-flips.result.now)

pub change-requires : goal.change-requires
change-requires c =
    let d : Flip = record { y = pos 0; x0 = pos 0; x1 = pos 0 } in
    let f = get_or c.as_slice-flips.result.now c.loop-flip.flip-index d in
    let fits0 : SFits w64 f.x0 = search rules in
    let fits1 : SFits w64 f.x1 = search rules in
    let among = cut c.as_slice-flips.result.now c.loop-flip.flip-index d c.loop-flip-test.true (subst AreSorted (sym c.as_slice-flips.ensures.value) c.in_ok-turned.ensures.sorted) in
    simp to_z-of_z among.wide

pub loop-flip-preserved : goal.loop-flip-preserved
loop-flip-preserved c =
    let d : Flip = record { y = pos 0; x0 = pos 0; x1 = pos 0 } in
    let flips = c.as_slice-flips.result.now in
    let i = c.loop-flip.flip-index in
    let f = get_or flips i d in
    let fits0 : SFits w64 f.x0 = search rules in
    let fits1 : SFits w64 f.x1 = search rules in
    let fitsy : SFits w64 f.y = search rules in
    let row = c.loop-flip.row in
    let next = c.change.new.self in
    let ps = c.change.new.pieces.items in
    let tiles : Tile (value_from None row) f.x0 f.x1 ps = simp to_z-of_z at c.in_ok-change.ensures.pieces in
    let changed : (y : ℤ) → value_from None next y ≡ cond (between f.x0 f.x1 y) (passed f.y (value_from None row y)) (value_from None row y) = λ y. simp to_z-of_z at (c.in_ok-change.ensures.row y) in
    let rects' = c.push_ended.new.rects.items in
    let e : rects' ≡ c.loop-flip.rects.items ++ ended f.y (joined ps) = simp to_z-of_z at c.in_ok-push_ended.ensures ∙ ap (λ qs. c.loop-flip.rects.items ++ ended f.y (joined qs)) c.deref.ensures.value in
    told_step flips i d row next c.loop-flip.rects.items rects' (joined ps) c.loop-flip-test.true (subst AreSorted (sym c.as_slice-flips.ensures.value) c.in_ok-turned.ensures.sorted)
    (tile_joined (value_from None row) f.x0 f.x1 ps tiles) (differ_joined ps) changed e c.loop-flip.invariant

pub returns-clause-canonical : goal.returns-clause-canonical
returns-clause-canonical c =
    all_weaker (IsCanonical (λ x y. squares c.as_slice-flips.result.now y x)) (IsCanonical (squares c.args.region.now))
    (λ r k. canonical_same (λ x y. squares c.as_slice-flips.result.now y x) (squares c.args.region.now) r (λ x y. ap (λ fs. squares fs y x) c.as_slice-flips.ensures.value ∙ c.in_ok-turned.ensures.squares x y) k)
    c.loop-flip.rects.items c.loop-flip.invariant.canonical

pub returns-clause-rects : goal.returns-clause-rects
returns-clause-rects c = c.loop-flip.invariant.swept.are_rects

pub returns-clause-covered : goal.returns-clause-covered
returns-clause-covered c =
    let s = subst (λ fs. IsSwept fs c.loop-flip.row c.loop-flip.rects.items) (take_all c.loop-flip.flip-index c.as_slice-flips.result.now c.loop-flip-test.false ∙ c.as_slice-flips.ensures.value) c.loop-flip.invariant.swept in
    all_covered c.in_ok-turned.turned.items c.args.region.now c.loop-flip.row c.loop-flip.rects.items c.in_ok-turned.ensures.squares s

pub returns-clause-disjoint : goal.returns-clause-disjoint
returns-clause-disjoint c = c.loop-flip.invariant.swept.disjoint
