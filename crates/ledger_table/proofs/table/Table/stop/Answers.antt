use Rattle.std.proofs.Common.{length, arith}
use Rattle.ledger_history.specs.declared.event.Event.TheVariants.{Stop}
use Rattle.ledger_table.specs.Marks.{run_of}
use Rattle.ledger_table.proofs.Standing.{room_left, stop_stands}
use Rattle.ledger_table.proofs.Telling.{holder_there}
use Rattle.ledger_table.proofs.table.Table.stop.Goals as goal

pub index_mut-requires : goal.index_mut-requires
index_mut-requires c =
    let a = rw (← c.self.view_is) at c.requires in
    let b = holder_there (run_of c.self.inside.places c.self.inside.budget (length c.self.inside.held.items) c.self.inside.past.events) c.self.inside.past.events c.args.worker (a.enabled).op c.self.invariant.legal (a.enabled).holds in
    grind arith

pub push-requires : goal.push-requires
push-requires c =
    let a = rw (← c.self.view_is) at c.requires in
    room_left _ _ _ _ _ _ _ _ _ _ (Stop c.args.worker) c.self.invariant a

pub invariant_of-self : goal.invariant_of-self
invariant_of-self c =
    let a = rw (← c.self.view_is) at c.requires in
    rw (c.push.ensures.events) (stop_stands _ _ _ _ _ _ _ _ _ _ _ _ c.self.invariant a c.push.ensures.room)
