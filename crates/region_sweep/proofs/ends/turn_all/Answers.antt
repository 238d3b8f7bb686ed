use Rattle.std.proofs.Common.{◌≡◌, ◌+◌, ℤ, pos, ◌≤ℤ◌, int_le, drop, get_or, subst, sym, ap, to_z, of_z, w64, rules, ◌∙◌}
use Rattle.std.proofs.lemmas.List.{drop_more}
use Rattle.std.proofs.lemmas.Int.{to_z-of_z}
use Rattle.std.specs.List.{AllByRecursion}
use mir.Val.{SFits}
use Rattle.list_facts.specs.EitherOr.{exactly_one}
use Rattle.region_sweep.specs.Working.Ends.{is_odd_number, odd_ends}
use Rattle.region_sweep.proofs.EndFlips.{number_left, one_left, up_to_all, weakly_first}
use Rattle.region_sweep.proofs.ends.turn_all.Goals as goal

pub loop-end-preserved : goal.loop-end-preserved
loop-end-preserved c =
    let ends = c.args.ends.now in
    let i = c.loop-end.end-index in
    let e = get_or ends i (pos 0) in
    let rest = drop (i + 1) ends in
    let kept = c.loop-end.kept.items in
    let new = c.turn.new.ends.items in
    let fits : SFits w64 e = search rules in
    let at_e : to_z w64 (of_z w64 e) ≡ e = to_z-of_z w64 e fits in
    let inv = c.loop-end.invariant in
    let more = drop_more ends i (pos 0) c.loop-end-test.true in
    let before = subst (AllByRecursion (λ (f : ℤ). AllByRecursion (λ (g : ℤ). g ≤ℤ f) kept)) more inv.3 in
    let after = c.in_ok-turn.ensures.ascend inv.2 (subst (λ (f : ℤ). AllByRecursion (λ (g : ℤ). g ≤ℤ f) kept) (sym at_e) before.0) in
    let up_to = subst (λ (f : ℤ). AllByRecursion (λ (g : ℤ). g ≤ℤ f) new) at_e after.1 in (
      λ x. one_left (odd_ends kept x) (odd_ends new x) _ (int_le e x) (odd_ends rest x)
          (sym (ap (λ es. exactly_one (odd_ends kept x) (odd_ends es x)) more) ∙ inv.0 x)
          (c.in_ok-turn.ensures.odd x ∙ ap (λ f. exactly_one (odd_ends kept x) (int_le f x)) at_e),
      number_left (is_odd_number kept) (is_odd_number new) (is_odd_number ends) (is_odd_number rest)
          (sym (ap (λ es. exactly_one (is_odd_number kept) (is_odd_number es)) more) ∙ inv.1) c.in_ok-turn.ensures.number,
      after.0,
      up_to_all new e rest up_to (weakly_first ends i (pos 0) c.loop-end-test.true c.requires.order),
    )
