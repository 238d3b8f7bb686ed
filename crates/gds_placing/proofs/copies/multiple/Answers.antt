use Rattle.std.proofs.Common.{◌∙◌, rules, w64, SFits, pos, ◌*ℤ◌}
use Rattle.gds_placing.proofs.Signed.{passed}
use Rattle.gds_placing.proofs.copies.multiple.Goals as goal

pub returns-clause-value : goal.returns-clause-value
returns-clause-value c =
    let p = c.args.pitch in
    let times = pos c.args.times in
    let fits_x : SFits w64 c.product.result = search rules in
    let fits_y : SFits w64 c.product-2.result = search rules in
    let fits_px : SFits w64 c.args.pitch.x = search rules in
    let fits_py : SFits w64 c.args.pitch.y = search rules in
    let px = passed p.x fits_px in
    let py = passed p.y fits_py in
    let x = passed c.product.result fits_x ∙ c.product.ensures.value ∙ (λ i. times *ℤ px i) in
    let y = passed c.product-2.result fits_y ∙ c.product-2.ensures.value ∙ (λ i. times *ℤ py i) in
    λ i. record { x = x i; y = y i }
