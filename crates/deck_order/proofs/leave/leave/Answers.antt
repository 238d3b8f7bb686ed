use Rattle.std.proofs.Common.{◌≡◌, ◌⊎◌, ◌↔◌, ◌++◌, [], ◌∷◌, ◌+◌, true, option_to_list, length, sym, ap, subst, ◌∙◌, arith}
use Rattle.std.proofs.lemmas.Option.{slice_get_within}
use Rattle.deck_order.specs.Uses.{IsUse}
use Rattle.deck_order.specs.Working.Walks.{IsLast, Stage, IsWalk, GoesOn, unseen}
use Rattle.deck_order.proofs.Lasts.{last_behind, last_within}
use Rattle.deck_order.proofs.Leaving.{left_walk, other_bounds}
use Rattle.deck_order.proofs.Closing.{group_left_walk, group_left_unseen, group_left_goes_on}
use Rattle.deck_order.proofs.leave.leave.Goals as goal

pub is_cyclic-cyclic-requires-clause-there : goal.is_cyclic-cyclic-requires-clause-there
is_cyclic-cyclic-requires-clause-there c =
    let before = c.pop.new.self.items in
    let f = c.in-Some.step in
    let is : c.args.walk.now.path.items ≡ before ++ f ∷ [] = c.pop.ensures.items ∙ ap (λ o. before ++ option_to_list o) c.in-Some.is in
    let last = subst (λ p. IsLast p f) (sym is) (last_behind before f) in
    last_within c.requires.walk f last

pub is_cyclic-cyclic-requires-clause-open : goal.is_cyclic-cyclic-requires-clause-open
is_cyclic-cyclic-requires-clause-open c =
    let before = c.pop.new.self.items in
    let f = c.in-Some.step in
    let is : c.args.walk.now.path.items ≡ before ++ f ∷ [] = c.pop.ensures.items ∙ ap (λ o. before ++ option_to_list o) c.in-Some.is in
    let last = subst (λ p. IsLast p f) (sym is) (last_behind before f) in
    let l = slice_get_within c.args.walk.now.pending.items f.at f.definition (c.requires.walk.way.there last.0 f last.2) in
    let n = c.len.ensures in
    omega arith

pub close-requires-clause-at : goal.close-requires-clause-at
close-requires-clause-at c =
    let before = c.pop.new.self.items in
    let f = c.in-Some.step in
    let is : c.args.walk.now.path.items ≡ before ++ f ∷ [] = c.pop.ensures.items ∙ ap (λ o. before ++ option_to_list o) c.in-Some.is in
    let last = subst (λ p. IsLast p f) (sym is) (last_behind before f) in
    let l = slice_get_within c.args.walk.now.pending.items f.at f.definition (c.requires.walk.way.there last.0 f last.2) in
    omega arith

pub close-requires-clause-there : goal.close-requires-clause-there
close-requires-clause-there c = λ a u e. slice_get_within c.args.walk.now.marks.items u _ (c.requires.walk.marked.open_marked a u e)

pub returns-in_ok-close-clause-walk : goal.returns-in_ok-close-clause-walk
returns-in_ok-close-clause-walk c =
    let before = c.pop.new.self.items in
    let f = c.in-Some.step in
    let is : c.args.walk.now.path.items ≡ before ++ f ∷ [] = c.pop.ensures.items ∙ ap (λ o. before ++ option_to_list o) c.in-Some.is in
    let last = subst (λ p. IsLast p f) (sym is) (last_behind before f) in
    let none = c.requires.none f last in
    let low = c.begins_here.ensures.here c.if-begins_here.true in
    let count : c.len.result ≡ length c.args.walk.now.pending.items = let n = c.len.ensures in omega arith in
    let tells = subst (λ n. (c.is_cyclic-cyclic.result ≡ true) ↔ ((n ≡ f.at + 1 → ⊥) ⊎ IsUse c.args.uses.now f.definition f.definition)) count c.is_cyclic-cyclic.ensures in
    subst (IsWalk c.args.uses.now) (sym c.in_ok-close.ensures) (group_left_walk c.requires.walk before f is none c.begins_here.new.bounds.items low c.is_cyclic-cyclic.result tells)

pub returns-in_ok-close-clause-unseen : goal.returns-in_ok-close-clause-unseen
returns-in_ok-close-clause-unseen c =
    let before = c.pop.new.self.items in
    let f = c.in-Some.step in
    let is : c.args.walk.now.path.items ≡ before ++ f ∷ [] = c.pop.ensures.items ∙ ap (λ o. before ++ option_to_list o) c.in-Some.is in
    let last = subst (λ p. IsLast p f) (sym is) (last_behind before f) in
    let none = c.requires.none f last in
    let low = c.begins_here.ensures.here c.if-begins_here.true in
    let count : c.len.result ≡ length c.args.walk.now.pending.items = let n = c.len.ensures in omega arith in
    let tells = subst (λ n. (c.is_cyclic-cyclic.result ≡ true) ↔ ((n ≡ f.at + 1 → ⊥) ⊎ IsUse c.args.uses.now f.definition f.definition)) count c.is_cyclic-cyclic.ensures in
    ap (λ (s : Stage). unseen s.marks) c.in_ok-close.ensures ∙ group_left_unseen c.requires.walk before f is none c.begins_here.new.bounds.items low c.is_cyclic-cyclic.result tells

pub returns-in_ok-close-clause-goes_on : goal.returns-in_ok-close-clause-goes_on
returns-in_ok-close-clause-goes_on c =
    let before = c.pop.new.self.items in
    let f = c.in-Some.step in
    let is : c.args.walk.now.path.items ≡ before ++ f ∷ [] = c.pop.ensures.items ∙ ap (λ o. before ++ option_to_list o) c.in-Some.is in
    let last = subst (λ p. IsLast p f) (sym is) (last_behind before f) in
    let none = c.requires.none f last in
    let low = c.begins_here.ensures.here c.if-begins_here.true in
    let count : c.len.result ≡ length c.args.walk.now.pending.items = let n = c.len.ensures in omega arith in
    let tells = subst (λ n. (c.is_cyclic-cyclic.result ≡ true) ↔ ((n ≡ f.at + 1 → ⊥) ⊎ IsUse c.args.uses.now f.definition f.definition)) count c.is_cyclic-cyclic.ensures in
    subst (λ (s : Stage). GoesOn c.args.walk.now.marks.items s.marks) (sym c.in_ok-close.ensures) (group_left_goes_on c.requires.walk before f is none c.begins_here.new.bounds.items low c.is_cyclic-cyclic.result tells)

pub returns-else-begins_here-clause-walk : goal.returns-else-begins_here-clause-walk
returns-else-begins_here-clause-walk c =
    let before = c.pop.new.self.items in
    let f = c.in-Some.step in
    let is : c.args.walk.now.path.items ≡ before ++ f ∷ [] = c.pop.ensures.items ∙ ap (λ o. before ++ option_to_list o) c.in-Some.is in
    let last = subst (λ p. IsLast p f) (sym is) (last_behind before f) in
    let none = c.requires.none f last in
    let other = other_bounds c.requires.walk before f is none (c.begins_here.ensures.other c.if-begins_here.false) in
    subst (λ bounds. IsWalk c.args.uses.now (record { marks = c.args.walk.now.marks.items; pending = c.args.walk.now.pending.items; bounds = bounds; path = before; listed = c.args.walk.now.listed.items; cyclic = c.args.walk.now.cyclic.items }))
    (sym (c.begins_here.ensures.same c.if-begins_here.false)) (left_walk c.requires.walk before f is none other)
