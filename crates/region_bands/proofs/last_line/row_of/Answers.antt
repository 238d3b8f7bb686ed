use Rattle.std.proofs.Common.{ℕ, ◌<◌, length, get_or, pos, arith, rules}
use Rattle.std.proofs.lemmas.Int.{to_z-of_z}
use mir.Syntax.{w64}
use mir.Val.{SFits}
use Rattle.region_form.specs.declared.flip.Flip.{Flip}
use Rattle.region_bands.proofs.LastLine.{span_at, behind_at, spans_more}
use Rattle.region_bands.proofs.last_line.row_of.Goals as goal

pub push_end-requires-clause-not_empty : goal.push_end-requires-clause-not_empty
push_end-requires-clause-not_empty c =
    let d : Flip = record { y = pos 0; x0 = pos 0; x1 = pos 0 } in
    let i : ℕ = c.loop-flip.flip-index in
    let fs = c.args.flips.now in
    let h : i < length fs = omega arith in
    let f : SFits w64 (get_or fs i d).x0 = search rules in
    let g : SFits w64 (get_or fs i d).x1 = search rules in
    simp to_z-of_z (span_at fs i d h c.requires)

pub push_end-requires-clause-behind : goal.push_end-requires-clause-behind
push_end-requires-clause-behind c =
    let d : Flip = record { y = pos 0; x0 = pos 0; x1 = pos 0 } in
    let i : ℕ = c.loop-flip.flip-index in
    let fs = c.args.flips.now in
    let h : i < length fs = omega arith in
    let f : SFits w64 (get_or fs i d).x0 = search rules in
    rw c.loop-flip.invariant (simp to_z-of_z (behind_at fs i d h c.requires))

pub loop-flip-preserved : goal.loop-flip-preserved
loop-flip-preserved c =
    let d : Flip = record { y = pos 0; x0 = pos 0; x1 = pos 0 } in
    let i : ℕ = c.loop-flip.flip-index in
    let fs = c.args.flips.now in
    let h : i < length fs = omega arith in
    let f : SFits w64 (get_or fs i d).x0 = search rules in
    let g : SFits w64 (get_or fs i d).x1 = search rules in
    let e = simp to_z-of_z at c.in_ok-push_end.ensures.ok in
    let m = spans_more fs i d h in
    cc
