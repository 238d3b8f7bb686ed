use Rattle.std.proofs.Common.{◌≡◌, ◌≤◌, ℤ, false, sym, subst, ap, ◌∙◌}
use Rattle.region_form.specs.Flips.{AreSorted, IsRegion, squares}
use Rattle.region_turn.specs.Working.Corners.{flips_between, odd_corners, odd_up_to}
use Rattle.region_turn.proofs.Corners.{between_have, corners_close, corners_have, corners_moved, up_to_moved}
use Rattle.region_turn.proofs.Different.{AreDifferent, between_sorted, count_at, count_moved, one_at}
use Rattle.region_turn.proofs.turning.turn_over.Goals as goal

pub returns-clause-sorted : goal.returns-clause-sorted
returns-clause-sorted c =
    let form : IsRegion c.flips-flips.result.now = c.flips-flips.ensures.form in
    let even : (x : ℤ) → odd_up_to c.in_order-sorted.result.items x ≡ false = λ x.
    up_to_moved c.in_ok-corners.corners.items c.in_order-sorted.result.items x c.in_order-sorted.ensures.corners
    ∙ (ap (λ cs. odd_up_to cs x) c.in_ok-corners.ensures ∙ (corners_close c.flips-flips.result.now x form.sorted ∙ form.closed x)) in
    let different : AreDifferent c.in_order-sorted.result.items = λ line row.
    subst (λ n. n ≤ 1) (sym (count_moved c.in_ok-corners.corners.items c.in_order-sorted.result.items line row c.in_order-sorted.ensures.corners ∙ ap (count_at line row) c.in_ok-corners.ensures))
    (one_at c.flips-flips.result.now line row form.sorted) in
    subst AreSorted (sym (c.in_ok-turned.ensures ∙ ap (λ cs. flips_between cs) c.deref.ensures.value))
    (between_sorted c.in_order-sorted.result.items c.in_order-sorted.ensures.ascend different even)

pub returns-clause-squares : goal.returns-clause-squares
returns-clause-squares c =
    let form : IsRegion c.flips-flips.result.now = c.flips-flips.ensures.form in
    let even : (x : ℤ) → odd_up_to c.in_order-sorted.result.items x ≡ false = λ x.
    up_to_moved c.in_ok-corners.corners.items c.in_order-sorted.result.items x c.in_order-sorted.ensures.corners
    ∙ (ap (λ cs. odd_up_to cs x) c.in_ok-corners.ensures ∙ (corners_close c.flips-flips.result.now x form.sorted ∙ form.closed x)) in
    λ x y.
    ap (λ fs. squares fs y x) (c.in_ok-turned.ensures ∙ ap (λ cs. flips_between cs) c.deref.ensures.value)
    ∙ (between_have c.in_order-sorted.result.items x y c.in_order-sorted.ensures.ascend even
    ∙ (corners_moved c.in_ok-corners.corners.items c.in_order-sorted.result.items x y c.in_order-sorted.ensures.corners
    ∙ (ap (λ cs. odd_corners cs x y) c.in_ok-corners.ensures
    ∙ (corners_have c.flips-flips.result.now x y form.sorted ∙ ap (λ fs. squares fs x y) c.flips-flips.ensures.flips))))
