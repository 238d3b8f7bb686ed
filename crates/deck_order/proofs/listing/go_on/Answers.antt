use Rattle.std.proofs.Common.{◌≡◌, ◌+◌, ◌*◌, ◌<◌, length, sym, ap, subst, ◌∙◌, arith}
use Rattle.deck_order.specs.Working.Walks.{Stage, IsWalk, GoesOn, stage_of, unseen}
use Rattle.deck_order.proofs.Counting.{one_less}
use Rattle.deck_order.proofs.Entering.{entered_walk}
use Rattle.list_facts.proofs.Slots.{longer}
use Rattle.deck_order.proofs.Ends.{entered_goes_on, then_goes_on}
use Rattle.deck_order.proofs.listing.go_on.Goals as goal

pub loop-walk-smaller-in-Continue-1 : goal.loop-walk-smaller-in-Continue-1
loop-walk-smaller-in-Continue-1 c =
    let s = stage_of c.look.new.walk in
    let e = c.in_ok-enter-in-Some.ensures in
    let fewer = one_less s.marks c.in-Some.used (length s.pending) c.in-Some.ensures.unseen in
    let marks = ap (λ (s : Stage). unseen s.marks) e in
    let same = ap unseen c.look.ensures.marks in
    let path : length c.enter.new.walk.path.items ≡ length s.path + 1 = ap (λ (s : Stage). length s.path) e ∙ longer s.path _ in
    let way = c.look.ensures.way in
    let u : unseen c.enter.new.walk.marks.items + 1 ≡ unseen c.loop-walk.walk.marks.items = ap (λ n. n + 1) marks ∙ (fewer ∙ same) in
    let l : 2 * unseen c.enter.new.walk.marks.items + length c.enter.new.walk.path.items < 2 * unseen c.loop-walk.walk.marks.items + length c.loop-walk.walk.path.items = omega arith in
    l

pub loop-walk-preserved-in-Continue-1 : goal.loop-walk-preserved-in-Continue-1
loop-walk-preserved-in-Continue-1 c =
    let s = stage_of c.look.new.walk in
    let e = c.in_ok-enter-in-Some.ensures in
    let is = c.in-Some.ensures.unseen in (
      subst (IsWalk c.args.uses.now) (sym e) (entered_walk c.look.ensures.walk c.in-Some.used is c.in-Some.ensures.used),
      then_goes_on _ _ _ (subst (GoesOn c.args.walk.now.marks.items) (sym c.look.ensures.marks) c.loop-walk.invariant.1)
          (subst (λ (t : Stage). GoesOn s.marks t.marks) (sym e) (entered_goes_on s.marks c.in-Some.used (length s.pending) is)),
    )

pub loop-walk-preserved : goal.loop-walk-preserved
loop-walk-preserved c = (
  c.in_ok-leave-in-None.ensures.walk,
  then_goes_on _ _ _ (subst (GoesOn c.args.walk.now.marks.items) (sym c.look.ensures.marks) c.loop-walk.invariant.1) c.in_ok-leave-in-None.ensures.goes_on,
)
