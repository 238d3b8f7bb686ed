use Rattle.std.proofs.Common.{◌≡◌, ◌≤◌, List, take, drop, length, ◌-◌, ◌∙◌, ap, subst, rules}
use Rattle.std.proofs.lemmas.Int.{to_z-of_z}
use mir.Syntax.{w64}
use mir.Val.{SFits}
use Rattle.region_form.specs.declared.flip.Flip.{Flip}
use Rattle.region_form.specs.Flips.{AreBelow, IsRegion}
use Rattle.region_bands.specs.Working.LastLine.{AreOn, spans_of}
use Rattle.region_bands.proofs.BandPush.{last_row, change_of, pushed}
use Rattle.region_bands.proofs.push.change_by.Goals as goal

pub row_of-requires : goal.row_of-requires
row_of-requires c =
    let f : SFits w64 c.args.band.now.y0 = search rules in
    let e : c.flips.result.now ≡ c.flips-2.result.now = cc in
    let o = simp to_z-of_z at c.line_start-start.ensures.on in
    last_row c.flips-2.result.now c.line_start-start.result c.args.band.now.y0 c.flips-2.ensures.form.sorted (subst (λ (v : List Flip). AreOn c.args.band.now.y0 (drop c.line_start-start.result v)) e o)

pub returns-clause-start : goal.returns-clause-start
returns-clause-start c = subst (λ v. c.line_start-start.result ≤ length v) c.flips.ensures.flips c.line_start-start.ensures.bound

pub returns-clause-with_band : goal.returns-clause-with_band
returns-clause-with_band c =
    let f : SFits w64 c.args.band.now.y0 = search rules in
    let g : SFits w64 c.args.band.now.y1 = search rules in
    let fs = c.args.region.now in
    let n = c.line_start-start.result in
    let l = subst (λ (v : List Flip). AreBelow c.args.band.now.y0 (take n v)) c.flips.ensures.flips (simp to_z-of_z at c.line_start-start.ensures.below) in
    let o = subst (λ (v : List Flip). AreOn c.args.band.now.y0 (drop n v)) c.flips.ensures.flips (simp to_z-of_z at c.line_start-start.ensures.on) in
    let b : c.in_ok-below.below ≡ spans_of (take (length fs - n) (drop n fs)) = c.in_ok-below.ensures ∙ ap (λ v. spans_of (take (length v - n) (drop n v))) c.flips-2.ensures.flips in
    let e = simp to_z-of_z at c.in_ok-end.ensures.flips in
    rw e (pushed fs n c.args.band.now c.in_ok-change.change (subst IsRegion c.flips.ensures.flips c.flips.ensures.form)
    (change_of fs n c.args.band.now c.in_ok-below.below c.in_ok-change.change c.requires.high l o c.in_ok-end.ensures.upper c.in_ok-end.ensures.lower b c.in_ok-change.ensures))
