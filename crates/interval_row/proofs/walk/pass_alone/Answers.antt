use Rattle.interval_row.proofs.Alone.{row_front}
use Rattle.interval_row.proofs.walk.pass_alone.Goals as goal

pub append-requires : goal.append-requires
append-requires c =
    row_front c.args.pen.now.row c.args.a.now.spans.now c.ended_before-count.result (c.requires c.if-a.false c.if-b.false)
