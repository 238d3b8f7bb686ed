use Rattle.std.proofs.Common.{◌≡◌, ℕ, ◌*◌, ◌^◌, ◌≤◌, pos, ◌-ℤ◌, unsigned_abs, sym, ap, subst, ◌∙◌}
use Rattle.std.proofs.Math.Nat.{mul_assoc, mul_comm}
use Rattle.gds_records.specs.Working.RealSizes.{IsNearOne}
use Rattle.gds_records.specs.Reals.{fraction, magnitude, scale}
use mathlib.Core.Bool.{true≢false}
use Rattle.gds_records.proofs.RealSigns.{signed_positive}
use Rattle.gds_records.proofs.RealSizes.{near_from, near_to}
use Rattle.gds_records.proofs.real.Real8.near_inverse.Goals as goal

swapped : (f p k : ℕ) → f * p * k ≡ f * k * p
swapped f p k = mul_assoc f p k ∙ ap (λ m. f * m) (mul_comm p k) ∙ sym (mul_assoc f k p)

pub returns-then-not-is_negative : goal.returns-then-not-is_negative
returns-then-not-is_negative c =
    let r = c.args.self.now in
    let d = c.is_near_one.ensures in
    let e : c.fraction.result * c.args.precision * 2 ^ (4 * c.exponent.result) ≡ magnitude r * c.args.precision =
    swapped c.fraction.result c.args.precision (2 ^ (4 * c.exponent.result))
    ∙ ap (λ k. k * 2 ^ (4 * c.exponent.result) * c.args.precision) c.fraction.ensures.fraction
    ∙ ap (λ k. fraction r * 2 ^ (4 * k) * c.args.precision) c.exponent.ensures.exponent in
    let m = magnitude r * c.args.precision in
    let s = signed_positive r m (λ h. true≢false (sym (c.is_negative.ensures.1 h) ∙ c.if-not-is_negative.true)) in (
      (λ t. subst (λ z. unsigned_abs (z -ℤ pos scale) * 2 ^ 30 ≤ scale) (sym s) (near_to m (2 ^ 282) (subst (λ k. IsNearOne k (2 ^ 282)) e (d.0 t)))),
      (λ n. d.1 (subst (λ k. IsNearOne k (2 ^ 282)) (sym e) (near_from m (2 ^ 282) (subst (λ z. unsigned_abs (z -ℤ pos scale) * 2 ^ 30 ≤ scale) s n)))),
    )
