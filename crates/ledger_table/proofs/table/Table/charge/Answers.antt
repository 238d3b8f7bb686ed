use Rattle.std.proofs.Common.{length, arith}
use Rattle.ledger_history.specs.declared.event.Event.TheVariants.{Charge}
use Rattle.ledger_table.specs.Marks.{run_of}
use Rattle.ledger_table.proofs.Slots.{put_back}
use Rattle.ledger_table.proofs.Standing.{room_left, charge_stands}
use Rattle.ledger_table.proofs.Telling.{held_there}
use Rattle.ledger_table.proofs.table.Table.charge.Goals as goal

pub mark_charged-requires : goal.mark_charged-requires
mark_charged-requires c =
    let a = rw (← c.self.view_is) at c.requires in
    let b = held_there (run_of c.self.inside.places c.self.inside.budget (length c.self.inside.held.items) c.self.inside.past.events) c.self.inside.past.events c.args.worker c.args.op c.self.invariant.legal (a.enabled).holds in
    let d = c.self.invariant.marked.all in
    grind arith

pub push-requires : goal.push-requires
push-requires c =
    let a = rw (← c.self.view_is) at c.requires in
    room_left _ _ _ _ _ _ _ _ _ _ (Charge c.args.worker c.args.op c.args.cost) c.self.invariant a

pub invariant_of-self : goal.invariant_of-self
invariant_of-self c =
    let a = rw (← c.self.view_is) at c.requires in
    let e = put_back c.self.inside.marks.items c.mark_charged.new.marks c.self.inside.marks.len (grind arith) (grind arith) in
    rw (c.push.ensures.events, e)
    (charge_stands _ _ _ _ _ _ _ _ _ _ _ _ _ _ _ c.self.invariant a (c.mark_charged.ensures _ _ _ (rw c.deref_mut.ensures.value c.self.invariant.marked)) c.push.ensures.room (omega arith))
