use Rattle.std.proofs.Common.{◌≡◌, ◌∷◌, length, arith}
use Rattle.ledger_history.specs.declared.event.Event.TheVariants.{Publish}
use Rattle.ledger_table.specs.Marks.{MarksOf, run_of}
use Rattle.ledger_table.proofs.Slots.{put_back}
use Rattle.ledger_table.proofs.Standing.{room_left, legal_next, publish_stands, below_stays}
use Rattle.ledger_table.proofs.Telling.{held_there, holder_there}
use Rattle.ledger_table.proofs.table.Table.publish.Goals as goal

pub mark_published-requires : goal.mark_published-requires
mark_published-requires c =
    let a = rw (← c.self.view_is) at c.requires in
    let b = held_there (run_of c.self.inside.places c.self.inside.budget (length c.self.inside.held.items) c.self.inside.past.events) c.self.inside.past.events c.args.worker c.args.op c.self.invariant.legal (a.enabled).holds in
    let d = c.self.invariant.marked.all in
    grind arith

pub open_readers-requires-clause-there : goal.open_readers-requires-clause-there
open_readers-requires-clause-there c =
    let a = rw (← c.self.view_is) at c.requires in
    held_there (run_of c.self.inside.places c.self.inside.budget (length c.self.inside.held.items) c.self.inside.past.events) c.self.inside.past.events c.args.worker c.args.op c.self.invariant.legal (a.enabled).holds

pub idle_if_done-requires-clause-there : goal.idle_if_done-requires-clause-there
idle_if_done-requires-clause-there c =
    let a = rw (← c.self.view_is) at c.requires in
    let b = held_there (run_of c.self.inside.places c.self.inside.budget (length c.self.inside.held.items) c.self.inside.past.events) c.self.inside.past.events c.args.worker c.args.op c.self.invariant.legal (a.enabled).holds in
    let d = c.self.invariant.marked.all in
    grind arith

pub idle_if_done-requires-clause-worker : goal.idle_if_done-requires-clause-worker
idle_if_done-requires-clause-worker c =
    let a = rw (← c.self.view_is) at c.requires in
    let b = holder_there (run_of c.self.inside.places c.self.inside.budget (length c.self.inside.held.items) c.self.inside.past.events) c.self.inside.past.events c.args.worker c.args.op c.self.invariant.legal (a.enabled).holds in
    grind arith

pub push-requires : goal.push-requires
push-requires c =
    let a = rw (← c.self.view_is) at c.requires in
    room_left _ _ _ _ _ _ _ _ _ _ (Publish c.args.worker c.args.op) c.self.invariant a

pub invariant_of-self : goal.invariant_of-self
invariant_of-self c =
    let a = rw (← c.self.view_is) at c.requires in
    let ws = c.self.inside.places in
    let h = c.self.inside.past.events in
    let crew = length c.self.inside.held.items in
    let now = Publish c.args.worker c.args.op ∷ h in
    let n : c.self.inside.marks.len ≡ length c.self.inside.marks.items = grind arith in
    let e = put_back c.self.inside.marks.items c.mark_published.new.marks c.self.inside.marks.len n (grind arith) in
    let g = put_back c.self.inside.held.items c.idle_if_done.new.held c.self.inside.held.len (grind arith) (grind arith) in
    let l = legal_next _ _ _ _ _ _ _ _ _ _ (Publish c.args.worker c.args.op) c.self.invariant a in
    let m : MarksOf ws now c.mark_published.new.marks = c.mark_published.ensures _ _ _ (rw c.deref_mut.ensures.value c.self.invariant.marked) in
    let m1 : MarksOf ws now c.deref.result.now = rw (c.deref.ensures.value, e) m in
    let m2 : MarksOf ws now c.deref-2.result.now = rw (c.deref-2.ensures.value, e) m in
    let m3 : MarksOf ws now c.deref-3.result.now = rw (c.deref-3.ensures.value, e) m in
    let f = c.open_readers.ensures c.self.inside.budget crew c.args.worker h l m1 c.self.invariant.flagged in
    let idle = rw (c.wires-wires.ensures.same, c.deref_mut-2.ensures.value) at c.idle_if_done.ensures in
    let low = rw c.wires-wires.ensures.same at c.lowest_from-self-inside.ensures in
    rw (c.push.ensures.events, e, g, idle c.self.inside.budget crew now m2 l)
    (publish_stands _ _ _ _ _ _ _ _ _ _ _ _ _ _ _ _ c.self.invariant a m c.push.ensures.room f
    (low c.self.inside.budget crew now m3 l (below_stays ws h (Publish c.args.worker c.args.op) c.self.inside.lowest c.self.invariant.low.below)))
