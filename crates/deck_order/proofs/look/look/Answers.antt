use Rattle.std.proofs.Common.{inr, ◌<◌, ◌∙◌, sym, ap, subst, length, Some, arith}
use Rattle.std.proofs.lemmas.Grind.{common_steps}
use Rattle.std.proofs.lemmas.Option.{slice_get-get_or}
use Rattle.deck_order.specs.Working.Walks.{Stage, stage_of, IsLast, left_to_look}
use Rattle.deck_order.proofs.Lasts.{last_within, next_is, some_last}
use Rattle.deck_order.proofs.Looking.{fewer, looked_length, passed_walk}
use Rattle.deck_order.proofs.look.look.Goals as goal

pub next_use-requires-clause-there : goal.next_use-requires-clause-there
next_use-requires-clause-there c = λ f last. last_within c.loop-used.invariant.0 f (subst (λ p. IsLast p f) c.deref.ensures.value last)

pub index-mark-requires : goal.index-mark-requires
index-mark-requires c =
    let way : 0 < length c.loop-used.walk.path.items = let n = c.loop-used.invariant.2 in let m = c.requires.way in omega arith in
    let (f, last) = some_last c.loop-used.walk.path.items way in
    let is = next_is c.args.uses.now _ _ f _ _ c.deref.ensures.value last c.next_use.ensures.next c.in-Some.is in
    let l = c.requires.within f.definition c.in-Some.used (f.next, is) in
    let n = c.loop-used.invariant.0.marks_all in
    omega arith

pub returns-then-is_unseen-clause-unseen : goal.returns-then-is_unseen-clause-unseen
returns-then-is_unseen-clause-unseen c =
    let way : 0 < length c.loop-used.walk.path.items = let n = c.loop-used.invariant.2 in let m = c.requires.way in omega arith in
    let (f, last) = some_last c.loop-used.walk.path.items way in
    let is = next_is c.args.uses.now _ _ f _ _ c.deref.ensures.value last c.next_use.ensures.next c.in-Some.is in
    let l = c.requires.within f.definition c.in-Some.used (f.next, is) in
    let n = c.loop-used.invariant.0.marks_all in
    slice_get-get_or c.loop-used.walk.marks.items c.in-Some.used c.index-mark.result.now (omega arith)
    ∙ ap (λ m. Some m) (sym c.index-mark.ensures ∙ c.is_unseen.ensures.0 c.if-is_unseen.true)

pub returns-then-is_unseen-clause-used : goal.returns-then-is_unseen-clause-used
returns-then-is_unseen-clause-used c =
    let way : 0 < length c.loop-used.walk.path.items = let n = c.loop-used.invariant.2 in let m = c.requires.way in omega arith in
    let (f, last) = some_last c.loop-used.walk.path.items way in
    inr (f, last, (f.next, next_is c.args.uses.now _ _ f _ _ c.deref.ensures.value last c.next_use.ensures.next c.in-Some.is))

pub pass-requires-clause-room : goal.pass-requires-clause-room
pass-requires-clause-room c = λ f last. c.in-Some.ensures.room f (subst (λ p. IsLast p f) (sym c.deref.ensures.value) last)

pub loop-used-smaller : goal.loop-used-smaller
loop-used-smaller c =
    let way : 0 < length c.loop-used.walk.path.items = let n = c.loop-used.invariant.2 in let m = c.requires.way in omega arith in
    let (f, last) = some_last c.loop-used.walk.path.items way in
    let is = next_is c.args.uses.now _ _ f _ _ c.deref.ensures.value last c.next_use.ensures.next c.in-Some.is in
    subst (λ p. left_to_look c.args.uses.now p < left_to_look c.args.uses.now c.loop-used.walk.path.items) (sym (ap (λ (s : Stage). s.path) c.pass.ensures.stage)) (fewer c.args.uses.now c.loop-used.walk.path.items f _ last is)

pub loop-used-preserved : goal.loop-used-preserved
loop-used-preserved c =
    let way : 0 < length c.loop-used.walk.path.items = let n = c.loop-used.invariant.2 in let m = c.requires.way in omega arith in
    let (f, last) = some_last c.loop-used.walk.path.items way in
    let is = next_is c.args.uses.now _ _ f _ _ c.deref.ensures.value last c.next_use.ensures.next c.in-Some.is in
    let l = c.requires.within f.definition c.in-Some.used (f.next, is) in
    let n = c.loop-used.invariant.0.marks_all in
    let mark = slice_get-get_or c.loop-used.walk.marks.items c.in-Some.used c.index-mark.result.now (omega arith) ∙ ap (λ m. Some m) (sym c.index-mark.ensures) in
    let stage = c.pass.ensures.stage in (
      passed_walk c.loop-used.invariant.0 f last c.in-Some.used is (stage_of c.pass.new.walk) c.index-mark.result.now mark (λ e. let t = c.is_unseen.ensures.1 e in let z = c.if-is_unseen.false in absurd (grind (arith, common_steps))) c.pass.ensures,
      ap (λ (s : Stage). s.marks) stage ∙ c.loop-used.invariant.1,
      ap (λ (s : Stage). length s.path) stage ∙ (looked_length c.loop-used.walk.path.items ∙ c.loop-used.invariant.2),
    )
