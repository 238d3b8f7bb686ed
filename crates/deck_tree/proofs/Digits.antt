-- How great a number is that digits spell, and digits that stand behind others.
use Rattle.std.proofs.Common.{◌≡◌, ℕ, ◌+◌, ◌-◌, ◌*◌, ◌^◌, ◌<◌, ◌≤◌, List, [], ◌∷◌, ◌++◌, length, get_or, drop, refl, arith, add-one, drop-cons}
use Rattle.std.proofs.Math.Nat.{pow-le-pow_right, pow-suc, mul-le-mul_left}
use Rattle.deck_tree.specs.Worths.{decimal_from}

pub ten_to : (n : ℕ) → n ≤ 18 → 10 ^ n ≤ 1000000000000000000
ten_to n h = pow-le-pow_right {n = 10} (omega arith) {i = n} {j = 18} h

pub first_bound : (r n : ℕ) → n ≤ 18 → r + 23 ≤ (0 + 23) * 10 ^ n → r + 23 ≤ 23000000000000000023
first_bound r n h e = let p = ten_to n h in omega arith

pub later_bound : (a b n : ℕ) → n ≤ 18 → b + 23 ≤ 23000000000000000023 → a + 23 ≤ (b + 23) * 10 ^ n → a + 23 ≤ 23000000000000000023000000000000000000
later_bound a b n h k e = let p = mul-le-mul_left (b + 23) (ten_to n h) in omega arith

pub step_bound : (n b i d : ℕ) → n + 23 ≤ (b + 23) * 10 ^ i → d ≤ 207 → n * 10 + d + 23 ≤ (b + 23) * 10 ^ (i + 1)
step_bound n b i d e h = rw (add-one, pow-suc 10 i) (scaled n b (10 ^ i) d e h)
  where
    scaled : (n b p d : ℕ) → n + 23 ≤ (b + 23) * p → d ≤ 207 → n * 10 + d + 23 ≤ (b + 23) * (p * 10)
    scaled n b p d e h = omega arith

pub spell_step : (n : ℕ) (digits : List ℕ) (i : ℕ) → i < length digits → decimal_from n (drop i digits) ≡ decimal_from (n * 10 + (get_or digits i 0 - 48)) (drop (i + 1) digits)
spell_step n digits i h = rw (add-one, drop-cons digits i 0) refl

pub spelled_append : (n : ℕ) (xs ys : List ℕ) → decimal_from n (xs ++ ys) ≡ decimal_from (decimal_from n xs) ys
spelled_append n [] ys = refl
spelled_append n (x ∷ xs) ys = spelled_append (n * 10 + (x - 48)) xs ys
