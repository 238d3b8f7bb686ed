use Rattle.std.proofs.Common.{◌≡◌, ◌+◌, ◌-◌, ◌*◌, ◌^◌, sym, ap, subst, ◌∙◌, arith}
use Rattle.std.proofs.Math.Nat.{one-le-pow}
use Rattle.std.proofs.lemmas.Nat.{pow-add}
use Rattle.gds_records.specs.Working.RealSizes.{IsNearOne}
use Rattle.gds_records.proofs.Powers.{raised_twice}
use Rattle.gds_records.proofs.RealSizes.{near_up, near_down}
use Rattle.gds_records.proofs.real.is_near_one.Goals as goal

pub returns-then-power-ge-SHORT : goal.returns-then-power-ge-SHORT
returns-then-power-ge-SHORT c =
    let x = c.args.product in
    let power = 4 * c.args.exponent in
    let by = power - 282 in
    let e = raised_twice x by 282 power (omega arith) in
    let d = c.is_near_raised.ensures in (
      (λ t. subst (λ m. IsNearOne m (2 ^ 282)) (sym e) (near_up (x * 2 ^ by) 1 (2 ^ 282) (d.0 t))),
      (λ n. d.1 (near_down (x * 2 ^ by) 1 (2 ^ 282) (one-le-pow 282 2 (omega arith)) (subst (λ m. IsNearOne m (2 ^ 282)) e n))),
    )

pub returns-else-power-ge-SHORT : goal.returns-else-power-ge-SHORT
returns-else-power-ge-SHORT c =
    let x = c.args.product in
    let power = 4 * c.args.exponent in
    let by = 282 - power in
    let s : by + power ≡ 282 = omega arith in
    let e : 2 ^ by * 2 ^ power ≡ 2 ^ 282 = sym (pow-add 2 by power) ∙ ap (λ k. 2 ^ k) s in
    let d = c.is_near_lowered.ensures in (
      (λ t. subst (λ m. IsNearOne (x * 2 ^ power) m) e (near_up x (2 ^ by) (2 ^ power) (d.0 t))),
      (λ n. d.1 (near_down x (2 ^ by) (2 ^ power) (one-le-pow power 2 (omega arith)) (subst (λ m. IsNearOne (x * 2 ^ power) m) (sym e) n))),
    )
