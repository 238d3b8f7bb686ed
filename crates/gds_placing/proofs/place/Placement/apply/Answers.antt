use Rattle.std.proofs.Common.{◌∙◌, ap, rules, w64, SFits, pos, ◌+ℤ◌, ◌*ℤ◌}
use Rattle.std.proofs.lemmas.Int.{to_z-of_z}
use Rattle.gds_placing.specs.Places.{magnified, moved}
use Rattle.gds_placing.proofs.Following.{magnified_last}
use Rattle.gds_placing.proofs.place.Placement.apply.Goals as goal

pub returns : goal.returns
returns c =
    let fits_x : SFits w64 c.drawn.result = search rules in
    let fits_y : SFits w64 c.drawn-2.result = search rules in
    let fits_ox : SFits w64 c.args.self.now.origin.x = search rules in
    let fits_oy : SFits w64 c.args.self.now.origin.y = search rules in
    let fits_tx : SFits w64 c.apply-turned.result.x = search rules in
    let fits_ty : SFits w64 c.apply-turned.result.y = search rules in
    let ox = to_z-of_z w64 c.args.self.now.origin.x fits_ox in
    let oy = to_z-of_z w64 c.args.self.now.origin.y fits_oy in
    let tx = to_z-of_z w64 c.apply-turned.result.x fits_tx in
    let ty = to_z-of_z w64 c.apply-turned.result.y fits_ty in
    let times = pos c.args.self.now.magnification in
    let x = to_z-of_z w64 c.drawn.result fits_x ∙ c.drawn.ensures ∙ (λ i. ox i +ℤ (times *ℤ tx i)) in
    let y = to_z-of_z w64 c.drawn-2.result fits_y ∙ c.drawn-2.ensures ∙ (λ i. oy i +ℤ (times *ℤ ty i)) in
    (λ i. record { x = x i; y = y i })
    ∙ ap (λ p. moved c.args.self.now.origin (magnified c.args.self.now.magnification p)) c.apply-turned.ensures.value
    ∙ magnified_last c.args.self.now c.args.p
