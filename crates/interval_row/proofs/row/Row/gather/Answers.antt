use Rattle.std.proofs.Common.{pos, arith}
use Rattle.std.proofs.lemmas.Grind.{common_steps}
use Rattle.std.proofs.lemmas.Int.{ints}
use Rattle.interval_row.specs.declared.span.Span.{Span}
use Rattle.interval_row.proofs.Splits.{has_take_more}
use Rattle.interval_row.proofs.row.Row.gather.Goals as goal

pub loop-span-preserved : goal.loop-span-preserved
loop-span-preserved c x =
    let d : Span = record { lo = pos 0; hi = pos 0 } in
    let e = has_take_more c.args.spans.now c.loop-span.span-index d x (omega arith) in
    let w = c.in_ok-row.ensures x in
    let i = c.loop-span.invariant x in
    grind (arith, ints, common_steps)
