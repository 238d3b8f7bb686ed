use Rattle.std.proofs.Common.{◌∙◌, rules, w64, SFits, ◌+ℤ◌}
use Rattle.gds_placing.proofs.Signed.{passed}
use Rattle.gds_placing.proofs.copies.Copies.origin_at.Goals as goal

pub returns-clause-value : goal.returns-clause-value
returns-clause-value c =
    let o = c.args.self.now.origin in
    let a = c.multiple-across.result in
    let u = c.multiple-up.result in
    let fits_x : SFits w64 c.sum.result = search rules in
    let fits_y : SFits w64 c.sum-2.result = search rules in
    let fits_ox : SFits w64 c.args.self.now.origin.x = search rules in
    let fits_oy : SFits w64 c.args.self.now.origin.y = search rules in
    let fits_ax : SFits w64 c.multiple-across.result.x = search rules in
    let fits_ay : SFits w64 c.multiple-across.result.y = search rules in
    let fits_ux : SFits w64 c.multiple-up.result.x = search rules in
    let fits_uy : SFits w64 c.multiple-up.result.y = search rules in
    let ox = passed o.x fits_ox in
    let oy = passed o.y fits_oy in
    let ax = passed a.x fits_ax in
    let ay = passed a.y fits_ay in
    let ux = passed u.x fits_ux in
    let uy = passed u.y fits_uy in
    let x = passed c.sum.result fits_x ∙ c.sum.ensures.value ∙ (λ i. ox i +ℤ (ax i +ℤ ux i)) in
    let y = passed c.sum-2.result fits_y ∙ c.sum-2.ensures.value ∙ (λ i. oy i +ℤ (ay i +ℤ uy i)) in
    let across = c.multiple-across.ensures.value in
    let up = c.multiple-up.ensures.value in
    (λ i. record { x = x i; y = y i })
    ∙ (λ i. record { x = o.x +ℤ ((across i).x +ℤ (up i).x); y = o.y +ℤ ((across i).y +ℤ (up i).y) })
