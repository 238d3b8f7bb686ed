use Rattle.std.proofs.Common.{◌≡◌, pos, ◌^◌, map, w64, rules, sym, subst, ap, ◌∙◌}
use Rattle.std.proofs.lemmas.Int.{to_z-of_z}
use Rattle.std.specs.List.{AllByRecursion}
use mir.Val.{SFits}
use Rattle.drc_geom.specs.Squares.{IsRect, covered}
use Rattle.region_form.specs.Flips.{squares}
use Rattle.region_size.specs.Working.Widths.{LiesWithin, widened}
use Rattle.region_size.proofs.Growing.{grown_by, rects_within, same_within, wide_rects}
use Rattle.region_size.proofs.grow.grow_by.Goals as goal

pub widen-requires-clause-within : goal.widen-requires-clause-within
widen-requires-clause-within c =
    subst (AllByRecursion (LiesWithin (pos (2 ^ 42)))) (sym c.deref.ensures.value)
    (rects_within (pos (2 ^ 42)) c.in_ok-rects.rects.items c.in_ok-rects.ensures.rects
    (same_within (pos (2 ^ 42)) (covered c.in_ok-rects.rects.items) (squares c.args.region.now) c.in_ok-rects.ensures.covered c.requires.within))

pub merge-requires : goal.merge-requires
merge-requires c =
    let fits_x : SFits w64 c.args.dx = search rules in
    let fits_y : SFits w64 c.args.dy = search rules in
    let is : c.in_ok-wider.wider.items ≡ map (widened c.args.dx c.args.dy) c.deref.result.now = simp to_z-of_z at c.in_ok-wider.ensures in
    subst (AllByRecursion IsRect) (sym (c.deref-2.ensures.value ∙ (is ∙ ap (map (widened c.args.dx c.args.dy)) c.deref.ensures.value)))
    (wide_rects c.args.dx c.args.dy c.requires.x_low c.requires.y_low c.in_ok-rects.rects.items c.in_ok-rects.ensures.rects)

pub returns : goal.returns
returns c =
    let fits_x : SFits w64 c.args.dx = search rules in
    let fits_y : SFits w64 c.args.dy = search rules in
    let is : c.in_ok-wider.wider.items ≡ map (widened c.args.dx c.args.dy) c.deref.result.now = simp to_z-of_z at c.in_ok-wider.ensures in
    let wider : c.deref-2.result.now ≡ map (widened c.args.dx c.args.dy) c.in_ok-rects.rects.items = c.deref-2.ensures.value ∙ (is ∙ ap (map (widened c.args.dx c.args.dy)) c.deref.ensures.value) in
    grown_by c.args.dx c.args.dy c.requires.x_low c.requires.y_low (squares c.args.region.now) (squares c.in_ok-grown.grown) c.in_ok-rects.rects.items c.in_ok-rects.ensures.covered c.in_ok-rects.ensures.rects
    (λ x y. c.in_ok-grown.ensures x y ∙ ap (λ rs. covered rs x y) wider)
