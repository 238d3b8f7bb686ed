use Rattle.std.proofs.Common.{◌≡◌, eqb, not, sym, subst, ap, ◌∙◌}
use Rattle.region_sweep.specs.Counts.{AreWide, Rise, times, times_up_to}
use Rattle.region_merge.specs.Working.Overlaps.{open_count}
use Rattle.region_sweep.proofs.Reordered.{times_moved, up_to_moved, wide_moved}
use Rattle.region_merge.proofs.Overlapping.{all_end, inside_covered, lower_wide, none_open, upper_wide}
use Rattle.region_merge.proofs.cover.merge.Goals as goal

pub sweep-requires-clause-first_rises : goal.sweep-requires-clause-first_rises
sweep-requires-clause-first_rises c = subst Rise (sym c.deref.ensures.value) c.in_order-begun.ensures.rise

pub sweep-requires-clause-second_rises : goal.sweep-requires-clause-second_rises
sweep-requires-clause-second_rises c = subst Rise (sym c.deref-2.ensures.value) c.in_order-ended.ensures.rise

pub sweep-requires-clause-first_wide : goal.sweep-requires-clause-first_wide
sweep-requires-clause-first_wide c =
    subst AreWide (sym c.deref.ensures.value) (wide_moved c.in_ok-lower.lower.items c.in_order-begun.result.items c.in_order-begun.ensures.sides (subst AreWide (sym c.in_ok-lower.ensures.sides) (lower_wide c.args.rects.now c.requires)))

pub sweep-requires-clause-second_wide : goal.sweep-requires-clause-second_wide
sweep-requires-clause-second_wide c =
    subst AreWide (sym c.deref-2.ensures.value) (wide_moved c.in_ok-upper.upper.items c.in_order-ended.result.items c.in_order-ended.ensures.sides (subst AreWide (sym c.in_ok-upper.ensures) (upper_wide c.args.rects.now c.requires)))

pub sweep-requires-clause-closed : goal.sweep-requires-clause-closed
sweep-requires-clause-closed c =
    λ x.
    let begun = ap (λ fs. times fs x) c.deref.ensures.value ∙ (times_moved c.in_ok-lower.lower.items c.in_order-begun.result.items x c.in_order-begun.ensures.sides ∙ ap (λ fs. times fs x) c.in_ok-lower.ensures.sides) in
    let ended = ap (λ fs. times fs x) c.deref-2.ensures.value ∙ (times_moved c.in_ok-upper.upper.items c.in_order-ended.result.items x c.in_order-ended.ensures.sides ∙ ap (λ fs. times fs x) c.in_ok-upper.ensures) in
    ap (λ n. not (eqb (open_count n (times c.deref-2.result.now x)) 0)) (begun ∙ (all_end c.args.rects.now x ∙ sym ended)) ∙ none_open (times c.deref-2.result.now x)

pub returns : goal.returns
returns c =
    λ x y.
    let begun = ap (λ fs. times_up_to fs x y) c.deref.ensures.value ∙ (up_to_moved c.in_ok-lower.lower.items c.in_order-begun.result.items x y c.in_order-begun.ensures.sides ∙ ap (λ fs. times_up_to fs x y) c.in_ok-lower.ensures.sides) in
    let ended = ap (λ fs. times_up_to fs x y) c.deref-2.ensures.value ∙ (up_to_moved c.in_ok-upper.upper.items c.in_order-ended.result.items x y c.in_order-ended.ensures.sides ∙ ap (λ fs. times_up_to fs x y) c.in_ok-upper.ensures) in
    c.in_ok-region.ensures x y ∙ inside_covered c.args.rects.now x y _ _ c.requires c.in_ok-lower.ensures.bound begun ended
