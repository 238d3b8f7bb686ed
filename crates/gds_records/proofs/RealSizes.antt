-- Sizes near the value 1: raised and lowered together with the unit, and as a distance.
use Rattle.std.proofs.Common.{◌≡◌, ℕ, zero, suc, ◌*◌, ◌^◌, ◌<◌, ◌≤◌, ◌↔◌, pos, ◌-ℤ◌, unsigned_abs, IsTrue, nat_le, sym, subst, arith}
use Rattle.std.proofs.lemmas.Bool.Decides.{nat_tests}
use Rattle.std.proofs.lemmas.Int.{ints}
use Rattle.std.proofs.Math.Nat.{mul-le-mul_right, le_of_mul-le-mul_right, mul_assoc}
use Rattle.std.proofs.Math.Pow.{pow_mono}
use Rattle.gds_records.specs.Working.RealSizes.{IsNearOne}
use Rattle.gds_records.proofs.Powers.{raised_least}

pub near_up : (x u k : ℕ) → IsNearOne x u → IsNearOne (x * k) (u * k)
near_up x u k n = record {
  low = subst (λ m. m ≤ x * k) (mul_assoc 1073741823 u k) (mul-le-mul_right k n.low);
  high = subst (λ m. x * k ≤ m) (mul_assoc 1073741825 u k) (mul-le-mul_right k n.high);
}

pub near_down : (x u k : ℕ) → 0 < k → IsNearOne (x * k) (u * k) → IsNearOne x u
near_down x u k h n = record {
  low = le_of_mul-le-mul_right (subst (λ m. m ≤ x * k) (sym (mul_assoc 1073741823 u k)) n.low) h;
  high = le_of_mul-le-mul_right (subst (λ m. x * k ≤ m) (sym (mul_assoc 1073741825 u k)) n.high) h;
}

pub raised_too_far : (x by : ℕ) → 32 ≤ by → IsNearOne (x * 2 ^ by) 1 → ⊥
raised_too_far zero by h n = let l = n.low in omega arith
raised_too_far (suc x) by h n = let p = raised_least (suc x) by 32 (omega arith) h in let u = n.high in omega arith

pub lowered_too_far : (x by : ℕ) → 77 ≤ by → x < 2 ^ 76 → IsNearOne x (2 ^ by) → ⊥
lowered_too_far x by h k n = let p = pow_mono h in let l = n.low in omega arith

pub high_decides : (x u h : ℕ) → h ≡ 1073741825 * u → 1073741823 * u ≤ x → IsTrue (nat_le x h) ↔ IsNearOne x u
high_decides x u h e l = ((λ t. record { low = l; high = grind (arith, nat_tests) }), (λ n. let p = n.high in grind (arith, nat_tests)))

-- the distance from the value 1
pub near_from : (m t : ℕ) → unsigned_abs (pos m -ℤ pos (1073741824 * t)) * 1073741824 ≤ 1073741824 * t → IsNearOne m t
near_from m t d = record { low = grind (arith, ints); high = grind (arith, ints) }

pub near_to : (m t : ℕ) → IsNearOne m t → unsigned_abs (pos m -ℤ pos (1073741824 * t)) * 1073741824 ≤ 1073741824 * t
near_to m t n = let l = n.low in let h = n.high in grind (arith, ints)
