use Rattle.std.proofs.Common.{◌≡◌, [], length, None, ap, subst, arith}
use Rattle.ledger_table.specs.Marks.{MarksOf}
use Rattle.ledger_table.specs.Flags.{FlagsOf}
use Rattle.ledger_table.proofs.Standing.{start_stands}
use Rattle.ledger_table.proofs.Slots.{slot_replicated, length_replicated}
use Rattle.ledger_table.proofs.table.Table.new.Goals as goal

pub invariant_of-result : goal.invariant_of-result
invariant_of-result c =
    let n : length c.in_ok-held.held.items ≡ c.args.workers = length_replicated _ _ _ c.in_ok-held.ensures in
    let a = ap length c.list-3.ensures.same in
    rw (c.in_ok-past.ensures, c.in_ok-places.ensures)
    (start_stands _ _ _ _ _ _ c.list.ensures.formed (subst (λ w. MarksOf w [] c.in_ok-marks.marks.items) c.list.ensures.same c.in_ok-marks.ensures)
    (slot_replicated c.in_ok-held.held.items c.args.workers None c.in_ok-held.ensures) (subst (λ w. FlagsOf w [] c.in_ok-ready.ready) c.list-2.ensures.same c.in_ok-ready.ensures) (omega arith) (omega arith))
