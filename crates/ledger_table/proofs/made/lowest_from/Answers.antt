use Rattle.std.proofs.Common.{length, subst, arith, ◌≡◌}
use Rattle.ledger_history.specs.Enabled.{AllFinishedBelow}
use Rattle.ledger_table.specs.Marks.{wired}
use Rattle.ledger_table.proofs.Telling.{lowest_none}
use Rattle.ledger_table.proofs.made.lowest_from.Goals as goal

pub returns : goal.returns
returns c = λ budget workers h m l a.
    let e : c.loop-op.op ≡ length c.args.wires.now = omega arith in
    lowest_none _ budget workers h l (subst (λ k. AllFinishedBelow (wired c.args.wires.now) h k) e (c.loop-op.invariant budget workers h m l a))
