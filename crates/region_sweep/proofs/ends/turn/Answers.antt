use Rattle.std.proofs.Common.{◌≡◌, ◌++◌, ◌∷◌, [], subst, sym, ap, to_z, of_z, w64, ◌∙◌}
use Rattle.std.proofs.lemmas.Int.{to_z-of_z}
use Rattle.region_sweep.specs.Working.Ends.{EndsWith, DoesNotEndWith}
use Rattle.region_sweep.proofs.EndFlips.{front_is, popped_ascends, popped_number, popped_odd, pushed_ascends, pushed_number, pushed_odd}
use Rattle.region_sweep.proofs.ends.turn.Goals as goal

pub returns-then-is_last-clause-odd : goal.returns-then-is_last-clause-odd
returns-then-is_last-clause-odd c =
    let at_end : to_z w64 (of_z w64 c.args.end) ≡ c.args.end = to_z-of_z w64 c.args.end c.ranges.end in
    let ends : EndsWith c.args.end c.args.ends.now.items = subst (λ e. EndsWith e c.args.ends.now.items) at_end (subst (EndsWith (to_z w64 (of_z w64 c.args.end))) c.deref.ensures.value c.if-is_last.ensures) in
    let is = ends.is ∙ ap (λ es. es ++ c.args.end ∷ []) (sym (front_is c.args.ends.now.items c.pop.new.self.items ends.front c.args.end c.args.ends.now.len ends.is c.args.ends.now.ok.0 c.pop.ensures.rest)) in
    popped_odd c.args.ends.now.items c.pop.new.self.items c.args.end is

pub returns-then-is_last-clause-number : goal.returns-then-is_last-clause-number
returns-then-is_last-clause-number c =
    let at_end : to_z w64 (of_z w64 c.args.end) ≡ c.args.end = to_z-of_z w64 c.args.end c.ranges.end in
    let ends : EndsWith c.args.end c.args.ends.now.items = subst (λ e. EndsWith e c.args.ends.now.items) at_end (subst (EndsWith (to_z w64 (of_z w64 c.args.end))) c.deref.ensures.value c.if-is_last.ensures) in
    let is = ends.is ∙ ap (λ es. es ++ c.args.end ∷ []) (sym (front_is c.args.ends.now.items c.pop.new.self.items ends.front c.args.end c.args.ends.now.len ends.is c.args.ends.now.ok.0 c.pop.ensures.rest)) in
    popped_number c.args.ends.now.items c.pop.new.self.items c.args.end is

pub returns-then-is_last-clause-ascend : goal.returns-then-is_last-clause-ascend
returns-then-is_last-clause-ascend c =
    let at_end : to_z w64 (of_z w64 c.args.end) ≡ c.args.end = to_z-of_z w64 c.args.end c.ranges.end in
    let ends : EndsWith c.args.end c.args.ends.now.items = subst (λ e. EndsWith e c.args.ends.now.items) at_end (subst (EndsWith (to_z w64 (of_z w64 c.args.end))) c.deref.ensures.value c.if-is_last.ensures) in
    let is = ends.is ∙ ap (λ es. es ++ c.args.end ∷ []) (sym (front_is c.args.ends.now.items c.pop.new.self.items ends.front c.args.end c.args.ends.now.len ends.is c.args.ends.now.ok.0 c.pop.ensures.rest)) in
    popped_ascends c.args.ends.now.items c.pop.new.self.items c.args.end is

pub returns-clause-odd : goal.returns-clause-odd
returns-clause-odd c =
    let at_end : to_z w64 (of_z w64 c.args.end) ≡ c.args.end = to_z-of_z w64 c.args.end c.ranges.end in
    pushed_odd c.args.ends.now.items c.push.new.self.items c.args.end (c.in_ok-push.ensures.items ∙ ap (λ e. c.args.ends.now.items ++ e ∷ []) at_end)

pub returns-clause-number : goal.returns-clause-number
returns-clause-number c =
    let at_end : to_z w64 (of_z w64 c.args.end) ≡ c.args.end = to_z-of_z w64 c.args.end c.ranges.end in
    pushed_number c.args.ends.now.items c.push.new.self.items c.args.end (c.in_ok-push.ensures.items ∙ ap (λ e. c.args.ends.now.items ++ e ∷ []) at_end)

pub returns-clause-ascend : goal.returns-clause-ascend
returns-clause-ascend c =
    let at_end : to_z w64 (of_z w64 c.args.end) ≡ c.args.end = to_z-of_z w64 c.args.end c.ranges.end in
    let other : DoesNotEndWith c.args.end c.args.ends.now.items = subst (λ e. DoesNotEndWith e c.args.ends.now.items) at_end (subst (DoesNotEndWith (to_z w64 (of_z w64 c.args.end))) c.deref.ensures.value c.if-is_last.ensures) in
    pushed_ascends c.args.ends.now.items c.push.new.self.items c.args.end (c.in_ok-push.ensures.items ∙ ap (λ e. c.args.ends.now.items ++ e ∷ []) at_end) other
