-- Where the lower ends lie on one line the other comparisons are run order.
use Rattle.std.proofs.Common.{◌∙◌, sym, rules, FitsSigned, w64}
use Rattle.std.proofs.lemmas.Int.{to_z-of_z}
use Rattle.std.specs.Ordering.{int_cmp}
use Rattle.drc_geom.specs.RunOrder.{run_order_level}
use Rattle.drc_geom.proofs.run.run_cmp.Goals as goal

pub returns-in-Equal : goal.returns-in-Equal
returns-in-Equal c =
    let fy : FitsSigned w64 c.end_y.result = search rules in
    let fy2 : FitsSigned w64 c.end_y-2.result = search rules in
    c.cmp_from_end_x.ensures
    ∙ run_order_level c.args.a.now c.args.b.now
    (sym (c.cmp.ensures ∙ (λ i. int_cmp ((to_z-of_z w64 _ fy ∙ c.end_y.ensures) i) ((to_z-of_z w64 _ fy2 ∙ c.end_y-2.ensures) i))) ∙ c.in-Equal.is)
