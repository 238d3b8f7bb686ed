use Rattle.std.proofs.Common.{take, arith}
use Rattle.gds_grammar.proofs.Slots.{refused}
use Rattle.gds_grammar.proofs.walk.slot_behind.Goals as goal

pub returns-in_err-slot : goal.returns-in_err-slot
returns-in_err-slot c =
    let kinds = c.args.kinds.now in
    let nowhere = refused kinds c.loop-kind.kind-index (omega arith) (c.in_err-slot.ensures (take c.loop-kind.kind-index kinds) c.loop-kind.invariant) in
    rw c.from_residual.ensures nowhere
