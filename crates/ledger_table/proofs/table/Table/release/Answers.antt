use Rattle.std.proofs.Common.{◌≡◌, ◌∷◌, length, ap, subst, sym, ◌∙◌, arith}
use Rattle.ledger_history.specs.declared.event.Event.TheVariants.{Release}
use Rattle.ledger_history.specs.Histories.{returns}
use Rattle.ledger_table.specs.Marks.{MarksOf, MarksWith, wired, run_of}
use Rattle.ledger_table.proofs.Slots.{put_back}
use Rattle.ledger_table.proofs.Totals.{place_reads}
use Rattle.ledger_table.proofs.Standing.{room_left, legal_next, release_stands, release_fits, reader_is_out, below_stays}
use Rattle.ledger_table.proofs.Telling.{held_there, holder_there}
use Rattle.ledger_table.proofs.table.Table.release.Goals as goal

pub give_back-requires-clause-there : goal.give_back-requires-clause-there
give_back-requires-clause-there c = λ j e.
    let a = rw (← c.self.view_is) at c.requires in
    let q = rw c.wires-wires.ensures.same at e in
    let b = held_there (run_of c.self.inside.places c.self.inside.budget (length c.self.inside.held.items) c.self.inside.past.events) c.self.inside.past.events c.args.worker c.args.op c.self.invariant.legal (a.enabled).holds in
    let low = c.self.invariant.wiring.lower c.args.op c.args.place j q in
    let d = c.self.invariant.marked.all in
    grind arith

pub give_back-requires-clause-left : goal.give_back-requires-clause-left
give_back-requires-clause-left c = λ j x e g.
    let a = rw (← c.self.view_is) at c.requires in
    let q = rw c.wires-wires.ensures.same at e in
    let n : c.self.inside.marks.len ≡ length c.self.inside.marks.items = grind arith in
    let p = put_back c.self.inside.marks.items c.mark_released.new.marks c.self.inside.marks.len n (grind arith) in
    let m = c.mark_released.ensures c.self.inside.places c.self.inside.past.events c.args.worker c.args.place (rw c.deref_mut.ensures.value c.self.invariant.marked) in
    let at = m.each j x (rw (c.deref_mut-2.ensures.value, p) at g) in
    reader_is_out _ _ _ _ _ _ _ _ _ _ c.args.worker c.args.op c.args.place j x c.self.invariant a q at.left

pub overflow_sub-self : goal.overflow_sub-self
overflow_sub-self c =
    let a = rw (← c.self.view_is) at c.requires in
    let ws = c.self.inside.places in
    let h = c.self.inside.past.events in
    let now = Release c.args.worker c.args.op c.args.place ∷ h in
    let n : c.self.inside.marks.len ≡ length c.self.inside.marks.items = grind arith in
    let p = put_back c.self.inside.marks.items c.mark_released.new.marks c.self.inside.marks.len n (grind arith) in
    let m = c.mark_released.ensures ws h c.args.worker c.args.place (rw c.deref_mut.ensures.value c.self.invariant.marked) in
    let m1 : MarksWith ws now (λ j. returns (wired ws) h j) c.deref_mut-2.result.now = rw (c.deref_mut-2.ensures.value, p) m in
    let m2 : MarksOf c.wires-wires.result.now now c.give_back.new.marks =
    c.give_back.ensures.marks h c.args.worker (subst (λ w. MarksWith w now (λ j. returns (wired w) h j) c.deref_mut-2.result.now) (sym c.wires-wires.ensures.same) m1) in
    let m3 : MarksOf ws now c.give_back.new.marks = subst (λ w. MarksOf w now c.give_back.new.marks) c.wires-wires.ensures.same m2 in
    let cost = rw c.wires-wires.ensures.same at c.give_back.ensures.cost in
    let r = place_reads ws c.args.op c.args.place c.self.invariant.wiring (a.enabled).place in
    release_fits _ _ _ _ _ _ _ _ _ _ c.args.worker c.args.op c.args.place r.0 _ c.self.invariant a r.1 (cost now r.0 r.1 m3)

pub idle_if_done-requires-clause-there : goal.idle_if_done-requires-clause-there
idle_if_done-requires-clause-there c =
    let a = rw (← c.self.view_is) at c.requires in
    let b = held_there (run_of c.self.inside.places c.self.inside.budget (length c.self.inside.held.items) c.self.inside.past.events) c.self.inside.past.events c.args.worker c.args.op c.self.invariant.legal (a.enabled).holds in
    let d = c.self.invariant.marked.all in
    grind arith

pub idle_if_done-requires-clause-worker : goal.idle_if_done-requires-clause-worker
idle_if_done-requires-clause-worker c =
    let a = rw (← c.self.view_is) at c.requires in
    let b = holder_there (run_of c.self.inside.places c.self.inside.budget (length c.self.inside.held.items) c.self.inside.past.events) c.self.inside.past.events c.args.worker c.args.op c.self.invariant.legal (a.enabled).holds in
    grind arith

pub push-requires : goal.push-requires
push-requires c =
    let a = rw (← c.self.view_is) at c.requires in
    room_left _ _ _ _ _ _ _ _ _ _ (Release c.args.worker c.args.op c.args.place) c.self.invariant a

pub invariant_of-self : goal.invariant_of-self
invariant_of-self c =
    let a = rw (← c.self.view_is) at c.requires in
    let ws = c.self.inside.places in
    let h = c.self.inside.past.events in
    let crew = length c.self.inside.held.items in
    let now = Release c.args.worker c.args.op c.args.place ∷ h in
    let n : c.self.inside.marks.len ≡ length c.self.inside.marks.items = grind arith in
    let p = put_back c.self.inside.marks.items c.mark_released.new.marks c.self.inside.marks.len n (grind arith) in
    let v : c.deref_mut-2.result.now ≡ c.mark_released.new.marks = c.deref_mut-2.ensures.value ∙ p in
    let v1 = ap length v in
    let q = put_back c.mark_released.new.marks c.give_back.new.marks c.self.inside.marks.len (grind arith) (grind arith) in
    let g = put_back c.self.inside.held.items c.idle_if_done.new.held c.self.inside.held.len (grind arith) (grind arith) in
    let l = legal_next _ _ _ _ _ _ _ _ _ _ (Release c.args.worker c.args.op c.args.place) c.self.invariant a in
    let m = c.mark_released.ensures ws h c.args.worker c.args.place (rw c.deref_mut.ensures.value c.self.invariant.marked) in
    let m1 : MarksWith ws now (λ j. returns (wired ws) h j) c.deref_mut-2.result.now = rw v m in
    let m0 : MarksOf c.wires-wires.result.now now c.give_back.new.marks =
    c.give_back.ensures.marks h c.args.worker (subst (λ w. MarksWith w now (λ j. returns (wired w) h j) c.deref_mut-2.result.now) (sym c.wires-wires.ensures.same) m1) in
    let m2 : MarksOf ws now c.give_back.new.marks = subst (λ w. MarksOf w now c.give_back.new.marks) c.wires-wires.ensures.same m0 in
    let cost = rw c.wires-wires.ensures.same at c.give_back.ensures.cost in
    let m3 : MarksOf ws now c.deref.result.now = rw (c.deref.ensures.value, p, q) m2 in
    let m4 : MarksOf ws now c.deref-2.result.now = rw (c.deref-2.ensures.value, p, q) m2 in
    let r = place_reads ws c.args.op c.args.place c.self.invariant.wiring (a.enabled).place in
    let idle = rw (c.wires-wires.ensures.same, c.deref_mut-3.ensures.value) at c.idle_if_done.ensures in
    let low = rw c.wires-wires.ensures.same at c.lowest_from-self-inside.ensures in
    rw (c.push.ensures.events, p, q, g, idle c.self.inside.budget crew now m3 l)
    (release_stands _ _ _ _ _ _ _ _ _ _ _ _ _ _ _ _ r.0 _ c.self.invariant a m2 c.push.ensures.room r.1 (cost now r.0 r.1 m2)
    (low c.self.inside.budget crew now m4 l (below_stays ws h (Release c.args.worker c.args.op c.args.place) c.self.inside.lowest c.self.invariant.low.below)))
