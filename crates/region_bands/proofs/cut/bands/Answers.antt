use Rattle.std.proofs.Common.{rules, ◌≡◌, Some}
use Rattle.std.proofs.lemmas.Int.{to_z-of_z}
use mir.Syntax.{w64}
use mir.Val.{SFits}
use Rattle.region_form.specs.Climbs.{first_line}
use Rattle.region_bands.proofs.BandRise.{rise_start, rise_past, fewer_past}
use Rattle.region_bands.proofs.cut.bands.Goals as goal

pub loop-line-init : goal.loop-line-init
loop-line-init c =
    rw (c.new-bands.ensures.items, c.new-climb.ensures.place) (rise_start c.args.region.now _ c.new-climb.ensures.form)

pub loop-line-smaller : goal.loop-line-smaller
loop-line-smaller c =
    let f : SFits w64 c.in-Some.line = search rules in
    let e : Some c.in-Some.line ≡ first_line c.loop-line.climb.flips = cc in
    let n = simp to_z-of_z at c.in_ok-row.ensures.flips in
    fewer_past c.in-Some.line _ _ e n

pub loop-line-preserved : goal.loop-line-preserved
loop-line-preserved c =
    let f : SFits w64 c.in-Some.line = search rules in
    let e : Some c.in-Some.line ≡ first_line c.loop-line.climb.flips = cc in
    let n = simp to_z-of_z at c.in_ok-row.ensures.flips in
    let a = simp to_z-of_z at c.in_ok-row.ensures.ahead in
    let b = simp to_z-of_z at c.in_ok-add_band.ensures.bands in
    simp to_z-of_z (rise_past _ _ _ _ c.in-Some.line c.in_ok-row.row _ _ _ c.loop-line.invariant e c.in_ok-add_band.ensures.row c.in_ok-row.ensures.below b n a)
