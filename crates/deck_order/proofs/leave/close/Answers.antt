use Rattle.std.proofs.Common.{◌≡◌, ◌++◌, [], ◌∷◌, option_to_list, ap, ◌∙◌, arith}
use Rattle.deck_order.specs.Working.Walks.{stage_of}
use Rattle.deck_order.proofs.ClosingSteps.{closed_more, flags_within, marks_within}
use Rattle.deck_order.proofs.leave.close.Goals as goal

pub index_mut-requires : goal.index_mut-requires
index_mut-requires c =
    let more = c.loop-walk-test.true in
    let n = c.len.ensures in
    let cut : c.loop-walk.walk.pending.items ≡ c.pop.new.self.items ++ c.in-Some.definition ∷ [] = c.pop.ensures.items ∙ ap (λ o. c.pop.new.self.items ++ option_to_list o) c.in-Some.is in
    let l = marks_within (stage_of c.args.walk.now) c.args.at c.args.cyclic (stage_of c.loop-walk.walk) c.loop-walk.invariant (omega arith) c.in-Some.definition c.pop.new.self.items cut c.requires.there in
    omega arith

pub index_mut-requires-in-Some : goal.index_mut-requires-in-Some
index_mut-requires-in-Some c =
    let more = c.loop-walk-test.true in
    let n = c.len.ensures in
    let cut : c.loop-walk.walk.pending.items ≡ c.pop.new.self.items ++ c.in-Some.definition ∷ [] = c.pop.ensures.items ∙ ap (λ o. c.pop.new.self.items ++ option_to_list o) c.in-Some.is in
    let l = flags_within (stage_of c.args.walk.now) c.args.at c.args.cyclic (stage_of c.loop-walk.walk) c.loop-walk.invariant (omega arith) c.in-Some.definition c.pop.new.self.items cut c.requires.there c.requires.flags in
    omega arith

pub loop-walk-preserved-in-Continue-1 : goal.loop-walk-preserved-in-Continue-1
loop-walk-preserved-in-Continue-1 c =
    let more = c.loop-walk-test.true in
    let n = c.len.ensures in
    let cut : c.loop-walk.walk.pending.items ≡ c.pop.new.self.items ++ c.in-Some.definition ∷ [] = c.pop.ensures.items ∙ ap (λ o. c.pop.new.self.items ++ option_to_list o) c.in-Some.is in
    closed_more (stage_of c.args.walk.now) c.args.at c.args.cyclic (stage_of c.loop-walk.walk) c.loop-walk.invariant (omega arith) c.in-Some.definition c.pop.new.self.items cut c.push.new.self.items c.in_ok-push.ensures.items
