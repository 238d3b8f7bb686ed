use Rattle.std.proofs.Common.{◌∷◌, ◌+◌, pos, get_or, drop, ◌≤ℤ◌, ◌<ℤ◌, append_assoc, arith, rules}
use Rattle.std.proofs.lemmas.Int.{ints, to_z-of_z}
use mir.Syntax.{w64}
use mir.Val.{SFits}
use Rattle.interval_row.specs.Rows.{StandsBehind}
use Rattle.interval_row.proofs.Splits.{row_right, behind_cut}
use Rattle.region_form.specs.declared.flip.Flip.{Flip}
use Rattle.region_form.specs.Working.Changes.{spans_up_to}
use Rattle.region_form.proofs.Changes.{span_of, next_span, next_span_row}
use Rattle.region_form.proofs.change.row_up_to.Goals as goal

pub push_end-requires-clause-not_empty : goal.push_end-requires-clause-not_empty
push_end-requires-clause-not_empty c =
    let line = c.args.line in
    let r = c.ranges.line in
    let d : Flip = record { y = pos 0; x0 = pos 0; x1 = pos 0 } in
    let fs = c.args.flips.now in
    let i = c.loop-flip.flip-index in
    let f = get_or fs i d in
    let f0 : SFits w64 f.x0 = search rules in
    let f1 : SFits w64 f.x1 = search rules in
    let h : f.y ≤ℤ line = grind (arith, ints) in
    let e = simp to_z-of_z at c.loop-flip.invariant in
    let q = next_span_row line fs c.loop-flip.row i d c.loop-flip-test.true c.requires e h in
    let k : f.x0 <ℤ f.x1 = (row_right c.loop-flip.row (span_of f ∷ spans_up_to line (drop (i + 1) fs)) q).0 in
    simp to_z-of_z k

pub push_end-requires-clause-behind : goal.push_end-requires-clause-behind
push_end-requires-clause-behind c =
    let line = c.args.line in
    let r = c.ranges.line in
    let d : Flip = record { y = pos 0; x0 = pos 0; x1 = pos 0 } in
    let fs = c.args.flips.now in
    let i = c.loop-flip.flip-index in
    let f = get_or fs i d in
    let f0 : SFits w64 f.x0 = search rules in
    let h : f.y ≤ℤ line = grind (arith, ints) in
    let e = simp to_z-of_z at c.loop-flip.invariant in
    let q = next_span_row line fs c.loop-flip.row i d c.loop-flip-test.true c.requires e h in
    let k : StandsBehind c.loop-flip.row f.x0 = behind_cut c.loop-flip.row (span_of f) (spans_up_to line (drop (i + 1) fs)) q in
    simp to_z-of_z k

pub loop-flip-preserved : goal.loop-flip-preserved
loop-flip-preserved c =
    let line = c.args.line in
    let r = c.ranges.line in
    let d : Flip = record { y = pos 0; x0 = pos 0; x1 = pos 0 } in
    let fs = c.args.flips.now in
    let i = c.loop-flip.flip-index in
    let f = get_or fs i d in
    let f0 : SFits w64 f.x0 = search rules in
    let f1 : SFits w64 f.x1 = search rules in
    let h : f.y ≤ℤ line = grind (arith, ints) in
    let e = simp to_z-of_z at c.loop-flip.invariant in
    let n = next_span line fs c.loop-flip.row i d c.loop-flip-test.true e h in
    rw c.in_ok-push_end.ensures.ok (simp (to_z-of_z, append_assoc) n)
