use Rattle.std.proofs.Common.{arith}
use Rattle.ledger_history.specs.declared.event.Event.TheVariants.{Claim}
use Rattle.ledger_table.proofs.Slots.{put_back}
use Rattle.ledger_table.proofs.Standing.{room_left, claim_stands}
use Rattle.ledger_table.proofs.table.Table.claim.Goals as goal

pub push-requires : goal.push-requires
push-requires c =
    let a = rw (← c.self.view_is) at c.requires in
    room_left _ _ _ _ _ _ _ _ _ _ (Claim c.args.worker c.args.op) c.self.invariant a

pub invariant_of-self : goal.invariant_of-self
invariant_of-self c =
    let a = rw (← c.self.view_is) at c.requires in
    let e = put_back c.self.inside.marks.items c.mark_claimed.new.marks c.self.inside.marks.len (grind arith) (grind arith) in
    rw (c.push.ensures.events, e, c.remove.ensures)
    (claim_stands _ _ _ _ _ _ _ _ _ _ _ _ _ _ c.self.invariant a (c.mark_claimed.ensures _ _ _ (rw c.deref_mut.ensures.value c.self.invariant.marked)) c.push.ensures.room)
