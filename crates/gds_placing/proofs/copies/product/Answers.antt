use Rattle.std.proofs.Common.{◌≡◌, ◌≤◌, w64, SFits, pos, ◌*ℤ◌, unsigned_abs, to_z, of_z, sym, ap, subst, ◌∙◌, arith}
use Rattle.std.proofs.lemmas.Int.{ints, to_z-of_z, fits_signed_from_abs}
use Rattle.gds_placing.proofs.Between.{product_near}
use Rattle.gds_placing.proofs.copies.product.Goals as goal

pub overflow_mul-result : goal.overflow_mul-result
overflow_mul-result c =
    let times : to_z w64 (of_z w64 c.from.result) ≡ pos c.args.times = omega (arith, ints) in
    let z = to_z-of_z w64 c.args.z c.ranges.z in
    let near = product_near 4294967296 c.args.times c.args.most c.args.z c.requires.few c.requires.near in
    let small = fits_signed_from_abs w64 (pos c.args.times *ℤ c.args.z) (omega arith) in
    let e : (to_z w64 (of_z w64 c.from.result) *ℤ to_z w64 (of_z w64 c.args.z))
    ≡ (pos c.args.times *ℤ c.args.z) = λ i. times i *ℤ z i in
    subst (SFits w64) (sym e) small

pub returns-clause-value : goal.returns-clause-value
returns-clause-value c =
    let times : to_z w64 (of_z w64 c.from.result) ≡ pos c.args.times = omega (arith, ints) in
    let z = to_z-of_z w64 c.args.z c.ranges.z in
    let near = product_near 4294967296 c.args.times c.args.most c.args.z c.requires.few c.requires.near in
    let small = fits_signed_from_abs w64 (pos c.args.times *ℤ c.args.z) (omega arith) in
    ap (λ w. to_z w64 (of_z w64 w)) (λ i. times i *ℤ z i) ∙ to_z-of_z w64 (pos c.args.times *ℤ c.args.z) small

pub returns-clause-near : goal.returns-clause-near
returns-clause-near c =
    subst (λ w. unsigned_abs w ≤ 4294967296) (sym (returns-clause-value c))
    (product_near 4294967296 c.args.times c.args.most c.args.z c.requires.few c.requires.near)
