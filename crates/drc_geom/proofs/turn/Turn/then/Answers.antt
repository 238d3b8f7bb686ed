use Rattle.std.proofs.Common.{◌+◌, ◌%◌, arith}
use Rattle.drc_geom.proofs.Turning.{then_mirrored, then_plain}
use Rattle.drc_geom.proofs.turn.Turn.then.Goals as goal
use Rattle.drc_geom.proofs.turn.Turn.then.Goals.{then-reversed, else-reversed}

pub returns-clause-follows : goal.returns-clause-follows
returns-clause-follows c =
    let q = (c.args.next.now.quarter % 4 + c.if-reversed.first) % 4 in
    elim c.if-reversed.branch [
      | then-reversed w ↦ then_mirrored c.args.self.now.mirror c.args.next.now.mirror c.args.self.now.quarter c.args.next.now.quarter q w.if-reversed.true (omega arith)
      | else-reversed w ↦ then_plain c.args.self.now.mirror c.args.next.now.mirror c.args.self.now.quarter c.args.next.now.quarter q w.if-reversed.false (omega arith)
    ]
