use Rattle.std.proofs.Common.{◌≡◌, ℕ, ◌<◌, ◌≤◌, ◌+◌, ◌*◌, ◌^◌, ◌++◌, pos, to_z, arith, sym, ◌∙◌, ap}
use Rattle.std.specs.Int.{w128}
use Rattle.std.proofs.lemmas.Int.{fits_signed_from_abs, to_z_pos}
use Rattle.deck_tree.specs.Worths.{decimal_from}
use Rattle.deck_tree.proofs.Digits.{first_bound, later_bound, spelled_append}
use Rattle.deck_tree.proofs.spelled.spelled.Goals as goal

pub behind-digits-requires-clause-number : goal.behind-digits-requires-clause-number
behind-digits-requires-clause-number c = first_bound c.behind.result _ c.requires.whole c.behind.ensures.bound

-- how great the number is that all digits spell
small : (a b n : ℕ) → n ≤ 18 → b + 23 ≤ 23000000000000000023 → a + 23 ≤ (b + 23) * 10 ^ n → a < 2 ^ 126
small a b n h k e = let p = later_bound a b n h k e in omega arith

pub overflow_cast-digits : goal.overflow_cast-digits
overflow_cast-digits c =
    let h = small c.behind-digits.result c.behind.result _ c.requires.fraction (first_bound c.behind.result _ c.requires.whole c.behind.ensures.bound) c.behind-digits.ensures.bound in
    fits_signed_from_abs w128 (pos c.behind-digits.result) (omega arith)

pub new-requires-clause-size : goal.new-requires-clause-size
new-requires-clause-size c =
    let h = small c.behind-digits.result c.behind.result _ c.requires.fraction (first_bound c.behind.result _ c.requires.whole c.behind.ensures.bound) c.behind-digits.ensures.bound in
    rw (to_z_pos w128 c.behind-digits.result (omega arith)) h

pub returns : goal.returns
returns c =
    let h = small c.behind-digits.result c.behind.result _ c.requires.fraction (first_bound c.behind.result _ c.requires.whole c.behind.ensures.bound) c.behind-digits.ensures.bound in
    let spelled : c.behind-digits.result ≡ decimal_from 0 (c.args.whole.now ++ c.args.fraction.now) =
    c.behind-digits.ensures.value ∙ ap (λ n. decimal_from n c.args.fraction.now) c.behind.ensures.value ∙ sym (spelled_append 0 c.args.whole.now c.args.fraction.now) in
    let num : to_z w128 c.behind-digits.result ≡ pos (decimal_from 0 (c.args.whole.now ++ c.args.fraction.now)) =
    to_z_pos w128 c.behind-digits.result (omega arith) ∙ ap pos spelled in
    rw (← num, ← c.power_of_ten.ensures.value) c.new.ensures.fraction
