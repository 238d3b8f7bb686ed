use Rattle.std.proofs.Common.{◌≡◌, inl, inr, ◌++◌, Option, Vec, Global, List, ◌∷◌, sym, subst, ap, append-nil, ◌∙◌}
use Rattle.region_form.specs.declared.flip.Flip.{Flip}
use Rattle.region_bool.specs.Working.Meetings.{AreOfOne, IsPassing, listed}
use Rattle.region_form.specs.Flips.{AreSorted}
use Rattle.region_form.proofs.FlipOrder.{sorted_behind}
use Rattle.region_bool.proofs.Passings.{ends, goes_on}
use Rattle.region_bool.proofs.both.flips_of_one.Goals as goal
use Rattle.region_bool.proofs.both.flips_of_one.Goals.{in-Some+in_ok-push, in_default-passed, in_default, in_default-2}

pub meet-met-requires-clause-first_wide : goal.meet-met-requires-clause-first_wide
meet-met-requires-clause-first_wide c =
    (subst (λ (o : Option Flip). AreSorted (listed o ++ c.loop-a.first_left.now)) c.in-Some-Some.is-0
    (sorted_behind c.loop-a.passed.items (listed c.loop-a.a ++ c.loop-a.first_left.now) c.loop-a.invariant.0.first_sorted)).0

pub meet-met-requires-clause-second_wide : goal.meet-met-requires-clause-second_wide
meet-met-requires-clause-second_wide c =
    (subst (λ (o : Option Flip). AreSorted (listed o ++ c.loop-a.second_left.now)) c.in-Some-Some.is-1
    (sorted_behind c.loop-a.passed.items (listed c.loop-a.b ++ c.loop-a.second_left.now) c.loop-a.invariant.0.second_sorted)).0

pub loop-a-preserved : goal.loop-a-preserved
loop-a-preserved c =
    let F = c.args.first.now in
    let S = c.args.second.now in
    let met = c.meet-met.result in
    let at_a = subst (λ (o : Option Flip). IsPassing F S (record { passed = c.loop-a.passed.items; first = listed o ++ c.loop-a.first_left.now; second = listed c.loop-a.b ++ c.loop-a.second_left.now })) c.in-Some-Some.is-0 c.loop-a.invariant.0 in
    let at_b = subst (λ (o : Option Flip). IsPassing F S (record { passed = c.loop-a.passed.items; first = c.in-Some-Some.one ∷ c.loop-a.first_left.now; second = listed o ++ c.loop-a.second_left.now })) c.in-Some-Some.is-1 at_a in
    let step = goes_on F S c.loop-a.passed.items c.loop-a.first_left.now c.loop-a.second_left.now c.in-Some-Some.one c.in-Some-Some.other met c.meet-met.ensures at_b in
    let pushed : c.match-met.passed.items ≡ c.loop-a.passed.items ++ listed met.passed = elim c.match-met.branch [
      | in-Some+in_ok-push w ↦
          ap (λ (v : Vec Flip Global). v.items) w.passed-is
          ∙ (w.in_ok-push.ensures.items ∙ ap (λ (k : Option Flip). c.loop-a.passed.items ++ listed k) (sym w.in-Some.is))
      | in_default-passed w ↦
          ap (λ (v : Vec Flip Global). v.items) w.passed-is
          ∙ (sym (append-nil c.loop-a.passed.items) ∙ ap (λ (k : Option Flip). c.loop-a.passed.items ++ listed k) (sym w.in_default-passed.is))
    ] in (
      subst (λ (xs : List Flip). IsPassing F S (record { passed = xs; first = listed c.front.result.0 ++ c.front.result.1.now; second = listed c.front-in-Some-Some.result.0 ++ c.front-in-Some-Some.result.1.now })) (sym pushed)
          (subst (λ (xs : List Flip). IsPassing F S (record { passed = c.loop-a.passed.items ++ listed met.passed; first = xs; second = listed c.front-in-Some-Some.result.0 ++ c.front-in-Some-Some.result.1.now })) (sym c.front.ensures.same)
          (subst (λ (xs : List Flip). IsPassing F S (record { passed = c.loop-a.passed.items ++ listed met.passed; first = listed met.first ++ c.loop-a.first_left.now; second = xs })) (sym c.front-in-Some-Some.ensures.same) step)),
      c.front.ensures.none,
      c.front-in-Some-Some.ensures.none,
    )

pub returns : goal.returns
returns c =
    let F = c.args.first.now in
    let S = c.args.second.now in
    let o = c.loop-a.passed.items in
    let a = listed c.loop-a.a ++ c.loop-a.first_left.now in
    let b = listed c.loop-a.b ++ c.loop-a.second_left.now in
    let said : c.push_left-2.new.passed.items ≡ ((o ++ a) ++ b) = c.in_ok-push_left-2.ensures ∙ ap (λ (xs : List Flip). xs ++ b) c.in_ok-push_left.ensures in
    subst (AreOfOne F S) (sym said) (
    elim c.match-a.branch [
      | in_default w ↦ ends F S o a b (inr (ap (λ (k : Option Flip). listed k ++ c.loop-a.second_left.now) w.in_default.is-1 ∙ c.loop-a.invariant.2 w.in_default.is-1)) c.loop-a.invariant.0
      | in_default-2 w ↦ ends F S o a b (inl (ap (λ (k : Option Flip). listed k ++ c.loop-a.first_left.now) w.in_default.is-0 ∙ c.loop-a.invariant.1 w.in_default.is-0)) c.loop-a.invariant.0
    ])
