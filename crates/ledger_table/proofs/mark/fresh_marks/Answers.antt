use Rattle.std.proofs.Common.{[], sym, subst}
use Rattle.layer_model.specs.Wirings.{CountsReaders}
use Rattle.ledger_table.specs.Marks.{MarksOf}
use Rattle.ledger_table.proofs.Marking.{marks_start}
use Rattle.ledger_table.proofs.mark.fresh_marks.Goals as goal

pub returns : goal.returns
returns c =
    let counts = subst (λ xs. CountsReaders c.args.wires.now xs) (sym c.deref.ensures.value) c.in_ok-counts.ensures in
    subst (λ m. MarksOf c.args.wires.now [] m) (sym c.in_ok-marks.ensures) (marks_start _ _ counts)
