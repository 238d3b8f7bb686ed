use Rattle.std.proofs.Common.{◌<ℤ◌, pos, get_or, rules, arith}
use Rattle.std.proofs.lemmas.Grind.{common_steps}
use Rattle.std.proofs.lemmas.Int.{ints, to_z-of_z}
use Rattle.interval_row.specs.declared.span.Span.{Span}
use mir.Syntax.{w64}
use mir.Val.{SFits}
use Rattle.interval_row.proofs.Alone.{behind_more}
use Rattle.interval_row.proofs.walk.ended_below.Goals as goal

pub loop-count-preserved : goal.loop-count-preserved
loop-count-preserved c =
    let f : SFits w64 c.args.place = search rules in
    let d : Span = record { lo = pos 0; hi = pos 0 } in
    let n = c.loop-count.count in
    let k : (get_or c.args.spans.now n d).hi <ℤ c.args.place = grind (arith, ints, common_steps) in
    let i = simp to_z-of_z at c.loop-count.invariant.1 in
    (omega arith, simp to_z-of_z (behind_more c.args.spans.now n d c.args.place c.loop-count-test.true i k))
