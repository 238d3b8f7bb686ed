use Rattle.std.proofs.Common.{◌∙◌}
use Rattle.list_facts.proofs.Members.{all_permuted, contains_from_has}
use Rattle.region_rects.proofs.Listed.{every_listed}
use Rattle.region_rects.proofs.Permuted.{covered_permuted, disjoint_permuted, strictly_sorted}
use Rattle.region_rects.proofs.ended.rectangles.Goals as goal

pub returns-clause-listed : goal.returns-clause-listed
returns-clause-listed c =
    let p = c.in_order-rects.ensures.rects in
    let told = c.in_ok-ended.ensures in
    let canonical = all_permuted _ _ _ p told.canonical in
    record {
      each = canonical;
      every = λ r k. contains_from_has _ r (every_listed _ _ r canonical (λ x y. covered_permuted _ _ x y p ∙ told.covered x y) k);
      ordered = strictly_sorted _ (all_permuted _ _ _ p told.rects) (disjoint_permuted _ _ p told.disjoint) c.in_order-rects.ensures.sorted;
    }

pub returns-clause-rects : goal.returns-clause-rects
returns-clause-rects c = all_permuted _ _ _ c.in_order-rects.ensures.rects c.in_ok-ended.ensures.rects

pub returns-clause-disjoint : goal.returns-clause-disjoint
returns-clause-disjoint c = disjoint_permuted _ _ c.in_order-rects.ensures.rects c.in_ok-ended.ensures.disjoint

pub returns-clause-covered : goal.returns-clause-covered
returns-clause-covered c = λ x y. covered_permuted _ _ x y c.in_order-rects.ensures.rects ∙ c.in_ok-ended.ensures.covered x y
