use Rattle.std.proofs.Common.{inl, length, Some, sym, ap, subst, ◌∙◌, arith}
use Rattle.std.proofs.lemmas.Grind.{common_steps}
use Rattle.std.proofs.lemmas.Option.{slice_get-get_or}
use Rattle.deck_order.specs.Working.Walks.{Stage, IsSeen, IsWalk, GoesOn}
use Rattle.deck_order.proofs.Entering.{entered_walk}
use Rattle.deck_order.proofs.Ends.{entered_goes_on, entered_seen, seen_is_closed, then_goes_on}
use Rattle.deck_order.proofs.listing.visit.Goals as goal

pub returns-then-not-is_unseen-clause-closed : goal.returns-then-not-is_unseen-clause-closed
returns-then-not-is_unseen-clause-closed c =
    let l = c.requires.there in
    let n = c.requires.walk.marks_all in
    let mark = slice_get-get_or c.args.walk.now.marks.items c.args.root c.index.result.now (omega arith) ∙ ap (λ m. Some m) (sym c.index.ensures) in
    seen_is_closed c.requires.walk c.requires.rests c.args.root (c.index.result.now, mark, λ e. let t = c.is_unseen.ensures.1 e in let z = c.if-not-is_unseen.true in absurd (grind (arith, common_steps)))

pub go_on-requires-clause-walk : goal.go_on-requires-clause-walk
go_on-requires-clause-walk c =
    let l = c.requires.there in
    let n = c.requires.walk.marks_all in
    let mark = slice_get-get_or c.args.walk.now.marks.items c.args.root c.index.result.now (omega arith) ∙ ap (λ m. Some m) (sym c.index.ensures ∙ c.is_unseen.ensures.0 (grind (common_steps, arith))) in
    subst (IsWalk c.args.uses.now) (sym c.in_ok-enter.ensures) (entered_walk c.requires.walk c.args.root mark (inl c.requires.rests))

pub returns-clause-closed : goal.returns-clause-closed
returns-clause-closed c =
    let l = c.requires.there in
    let n = c.requires.walk.marks_all in
    let mark = slice_get-get_or c.args.walk.now.marks.items c.args.root c.index.result.now (omega arith) ∙ ap (λ m. Some m) (sym c.index.ensures ∙ c.is_unseen.ensures.0 (grind (common_steps, arith))) in
    let marks = ap (λ (s : Stage). s.marks) c.in_ok-enter.ensures in
    let seen = entered_seen c.args.walk.now.marks.items c.args.root (length c.args.walk.now.pending.items) (omega arith) in
    let on = c.in_ok-go_on.ensures in
    seen_is_closed on.walk on.way c.args.root (on.goes_on.seen c.args.root (subst (λ ms. IsSeen ms c.args.root) (sym marks) seen))

pub returns-clause-goes_on : goal.returns-clause-goes_on
returns-clause-goes_on c =
    let l = c.requires.there in
    let n = c.requires.walk.marks_all in
    let mark = slice_get-get_or c.args.walk.now.marks.items c.args.root c.index.result.now (omega arith) ∙ ap (λ m. Some m) (sym c.index.ensures ∙ c.is_unseen.ensures.0 (grind (common_steps, arith))) in
    let marks = ap (λ (s : Stage). s.marks) c.in_ok-enter.ensures in
    then_goes_on _ _ _ (subst (GoesOn c.args.walk.now.marks.items) (sym marks) (entered_goes_on c.args.walk.now.marks.items c.args.root (length c.args.walk.now.pending.items) mark)) c.in_ok-go_on.ensures.goes_on
