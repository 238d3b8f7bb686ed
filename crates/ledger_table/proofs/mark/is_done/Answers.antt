use Rattle.ledger_table.proofs.Marking.{done_by_mark, not_and, yes_and}
use Rattle.ledger_table.proofs.mark.is_done.Goals as goal

pub returns-then-mark : goal.returns-then-mark
returns-then-mark c = λ budget workers h m l.
    rw c.input_count.ensures.count (yes_and _ _ _ (done_by_mark c.args.wires.now budget workers h c.args.marks.now c.args.op _ c.requires.wiring m l c.requires.there) c.if-mark.true)

pub returns-else-mark : goal.returns-else-mark
returns-else-mark c = λ budget workers h m l.
    not_and _ _ _ (done_by_mark c.args.wires.now budget workers h c.args.marks.now c.args.op _ c.requires.wiring m l c.requires.there) c.if-mark.false
