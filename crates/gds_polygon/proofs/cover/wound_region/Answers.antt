use Rattle.std.proofs.Common.{◌<◌, ◌^◌, true, false, eqb, not, length, sym, subst, ap, ◌∙◌, arith}
use Rattle.region_sweep.specs.Counts.{AreWide, Rise, times, times_up_to}
use Rattle.gds_polygon.specs.Working.Windings.{turns}
use Rattle.gds_polygon.specs.Working.Steps.{steps_of}
use Rattle.region_sweep.proofs.Reordered.{times_moved, up_to_moved, wide_moved}
use Rattle.gds_polygon.proofs.StepFacts.{steps_wide, steps_few, up_to_few}
use Rattle.gds_polygon.proofs.Around.{columns_close, inside_wound, none_turned, wound}
use Rattle.gds_polygon.proofs.cover.wound_region.Goals as goal

pub sweep-requires-clause-first_rises : goal.sweep-requires-clause-first_rises
sweep-requires-clause-first_rises c = subst Rise (sym c.deref.ensures.value) c.in_order-eastward.ensures.rise

pub sweep-requires-clause-second_rises : goal.sweep-requires-clause-second_rises
sweep-requires-clause-second_rises c = subst Rise (sym c.deref-2.ensures.value) c.in_order-westward.ensures.rise

pub sweep-requires-clause-first_wide : goal.sweep-requires-clause-first_wide
sweep-requires-clause-first_wide c =
    subst AreWide (sym c.deref.ensures.value) (wide_moved c.in_ok-east.east.items c.in_order-eastward.result.items c.in_order-eastward.ensures.steps
    (subst AreWide (sym c.in_ok-east.ensures.steps) (steps_wide true c.args.points.now)))

pub sweep-requires-clause-second_wide : goal.sweep-requires-clause-second_wide
sweep-requires-clause-second_wide c =
    subst AreWide (sym c.deref-2.ensures.value) (wide_moved c.in_ok-west.west.items c.in_order-westward.result.items c.in_order-westward.ensures.steps
    (subst AreWide (sym c.in_ok-west.ensures.steps) (steps_wide false c.args.points.now)))

pub sweep-requires-clause-closed : goal.sweep-requires-clause-closed
sweep-requires-clause-closed c =
    λ x.
    let east = ap (λ fs. times fs x) c.deref.ensures.value ∙ (times_moved c.in_ok-east.east.items c.in_order-eastward.result.items x c.in_order-eastward.ensures.steps ∙ ap (λ fs. times fs x) c.in_ok-east.ensures.steps) in
    let west = ap (λ fs. times fs x) c.deref-2.ensures.value ∙ (times_moved c.in_ok-west.west.items c.in_order-westward.result.items x c.in_order-westward.ensures.steps ∙ ap (λ fs. times fs x) c.in_ok-west.ensures.steps) in
    ap (λ n. not (eqb (turns n (times c.deref-2.result.now x)) 0)) (east ∙ (columns_close c.args.points.now x c.requires.closed ∙ sym west)) ∙ none_turned (times c.deref-2.result.now x)

pub returns : goal.returns
returns c =
    λ x y.
    let points = c.args.points.now in
    let east = ap (λ fs. times_up_to fs x y) c.deref.ensures.value ∙ (up_to_moved c.in_ok-east.east.items c.in_order-eastward.result.items x y c.in_order-eastward.ensures.steps ∙ ap (λ fs. times_up_to fs x y) c.in_ok-east.ensures.steps) in
    let west = ap (λ fs. times_up_to fs x y) c.deref-2.ensures.value ∙ (up_to_moved c.in_ok-west.west.items c.in_order-westward.result.items x y c.in_order-westward.ensures.steps ∙ ap (λ fs. times_up_to fs x y) c.in_ok-west.ensures.steps) in
    let e = times_up_to (steps_of true points) x y in
    let w = times_up_to (steps_of false points) x y in
    let bound : length points < 2 ^ 64 = c.in_ok-east.ensures.bound in
    let small_east : e < 2 ^ 64 = omega (arith, up_to_few (steps_of true points) x y, steps_few true points, bound) in
    let small_west : w < 2 ^ 64 = omega (arith, up_to_few (steps_of false points) x y, steps_few false points, bound) in
    c.in_ok-region.ensures x y
    ∙ ap (λ n. not (eqb (turns n (times_up_to c.deref-2.result.now x y)) 0)) east
    ∙ ap (λ n. not (eqb (turns e n) 0)) west
    ∙ inside_wound _ e w small_east small_west (wound points x y c.requires.closed c.requires.right_angled)
