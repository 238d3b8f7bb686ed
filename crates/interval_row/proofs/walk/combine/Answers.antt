use Rattle.std.proofs.Common.{◌≡◌, ◌+◌, ◌<◌, Some, None, rules, arith}
use Rattle.std.proofs.lemmas.Int.{to_z-of_z}
use mir.Syntax.{w64}
use mir.Val.{SFits}
use Rattle.interval_row.specs.Working.Walk.{walk_end, walk_of}
use Rattle.interval_row.proofs.Ends.{ends_left}
use Rattle.interval_row.proofs.Walks.{IsWalk, walk_start, walk_step, walk_over, walk_fewer}
use Rattle.interval_row.proofs.Skipping.{skipped, skipped_no_more}
use Rattle.interval_row.proofs.Alone.{passed_alone, passed_no_more, row_ahead}
use Rattle.interval_row.proofs.walk.combine.Goals as goal

pub loop-at-init : goal.loop-at-init
loop-at-init c = rw (c.new-pen.ensures.row, c.new-pen.ensures.begun) (walk_start _ _ _ c.requires.first c.requires.second)

pub pass_alone-requires : goal.pass_alone-requires
pass_alone-requires c =
    let e : walk_end (walk_of c.loop-at.a c.loop-at.b c.loop-at.pen) ≡ Some c.in-Some.at = cc in
    let f : SFits w64 c.in-Some.at = search rules in
    let t = c.in_ok-turn.ensures in
    let w : IsWalk c.args.operation c.args.first.now c.args.second.now (walk_of c.go_past.new.self c.go_past-in-Some.new.self c.turn.new.self) =
    rw (t.0, t.1, c.keeps.ensures, c.go_past.ensures.inside, c.go_past.ensures.spans, c.go_past-in-Some.ensures.inside, c.go_past-in-Some.ensures.spans) (simp to_z-of_z (walk_step _ _ _ _ c.loop-at.invariant c.in-Some.at e)) in
    row_ahead _ _ _ _ (skipped _ _ _ _ _ _ c.skip_common.ensures w)

pub loop-at-preserved : goal.loop-at-preserved
loop-at-preserved c =
    let e : walk_end (walk_of c.loop-at.a c.loop-at.b c.loop-at.pen) ≡ Some c.in-Some.at = cc in
    let f : SFits w64 c.in-Some.at = search rules in
    let t = c.in_ok-turn.ensures in
    let w : IsWalk c.args.operation c.args.first.now c.args.second.now (walk_of c.go_past.new.self c.go_past-in-Some.new.self c.turn.new.self) =
    rw (t.0, t.1, c.keeps.ensures, c.go_past.ensures.inside, c.go_past.ensures.spans, c.go_past-in-Some.ensures.inside, c.go_past-in-Some.ensures.spans) (simp to_z-of_z (walk_step _ _ _ _ c.loop-at.invariant c.in-Some.at e)) in
    passed_alone _ _ _ _ _ _ _ c.in_ok-pass_alone.ensures (skipped _ _ _ _ _ _ c.skip_common.ensures w)

pub loop-at-smaller : goal.loop-at-smaller
loop-at-smaller c =
    let e : walk_end (walk_of c.loop-at.a c.loop-at.b c.loop-at.pen) ≡ Some c.in-Some.at = cc in
    let f : SFits w64 c.in-Some.at = search rules in
    let n = skipped_no_more _ _ _ _ _ c.skip_common.ensures in
    let m = passed_no_more _ _ _ c.in_ok-pass_alone.ensures in
    let k : ends_left c.go_past.new.self.inside c.go_past.new.self.spans.now + ends_left c.go_past-in-Some.new.self.inside c.go_past-in-Some.new.self.spans.now < ends_left c.loop-at.a.inside c.loop-at.a.spans.now + ends_left c.loop-at.b.inside c.loop-at.b.spans.now =
    rw (c.go_past.ensures.inside, c.go_past.ensures.spans, c.go_past-in-Some.ensures.inside, c.go_past-in-Some.ensures.spans) (simp to_z-of_z (walk_fewer c.in-Some.at (walk_of c.loop-at.a c.loop-at.b c.loop-at.pen) e)) in
    omega arith

pub returns : goal.returns
returns c =
    let e : walk_end (walk_of c.loop-at.a c.loop-at.b c.loop-at.pen) ≡ None = cc in
    walk_over _ _ _ _ c.loop-at.invariant e
