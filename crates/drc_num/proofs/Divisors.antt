-- Common divisors: what divides a product and has nothing in common with one factor divides the other, and two
-- fractions in lowest terms that are one number are one fraction.
use Rattle.std.proofs.Common.{◌≡◌, ℕ, zero, suc, ◌+◌, ◌*◌, ◌/◌, ◌%◌, ◌^◌, ◌<◌, ◌≤◌, sym, ap, subst, ◌∙◌, arith, inl, inr}
use Rattle.std.specs.Int.{IsGcd, ◌∣◌}
use Rattle.std.proofs.lemmas.Bool.{cases_eq}
use Rattle.std.proofs.lemmas.Nat.{mod-mul-add, div-add-mod'}
use Rattle.std.proofs.lemmas.Nat.Gcd.{IsGcd-from_mod, IsGcd-from_zero, IsGcd-swap, same_from_IsGcd, dvd_refl, dvd-zero, dvd_trans, dvd_antisymm}
use Rattle.std.proofs.Math.Nat.{mul_comm, mod-lt, pos_of_ne-zero, dvd-mul_left, eq_of_mul-eq-mul_left, eq_of_mul-eq-mul_right, pow-zero, pow-suc, one-dvd, eq-one_of_dvd-one, div-mul_cancel}

-- a remainder and its divisor, each taken k times
parts_scaled : (k b q r : ℕ) → k * (q * b + r) ≡ q * (k * b) + k * r
parts_scaled k b q r = grind arith

lt_scaled : (k m n : ℕ) → 0 < k → m < n → k * m < k * n
lt_scaled k m n p h = grind arith

mod_scaled : (k a b : ℕ) → 0 < k → 0 < b → (k * a) % (k * b) ≡ k * (a % b)
mod_scaled k a b p q =
    ap (λ n. n % (k * b)) (ap (λ n. k * n) (sym (div-add-mod' a b)) ∙ parts_scaled k b (a / b) (a % b))
    ∙ mod-mul-add (a / b) (k * b) (k * (a % b)) (lt_scaled k (a % b) b p (mod-lt a q))

-- the greatest common divisor, and that of both numbers taken k times
record HasBoth (k a b : ℕ) : Type 0 where
  g : ℕ
  plain : IsGcd a b g
  scaled : IsGcd (k * a) (k * b) (k * g)

at_zero : (k a b : ℕ) → b ≡ 0 → HasBoth k a b
at_zero k a b e = record {
  g = a;
  plain = IsGcd-from_zero a b e;
  scaled = IsGcd-from_zero (k * a) (k * b) (ap (λ n. k * n) e ∙ omega arith);
}

by_step : (k a b : ℕ) → 0 < k → 0 < b → HasBoth k b (a % b) → HasBoth k a b
by_step k a b p q h = record {
  g = h.g;
  plain = IsGcd-from_mod a b h.g h.plain;
  scaled = IsGcd-from_mod (k * a) (k * b) (k * h.g)
      (subst (λ n. IsGcd (k * b) n (k * h.g)) (sym (mod_scaled k a b p q)) h.scaled);
}

below_suc : (m n : ℕ) → m < n → (l : ℕ) → n ≤ suc l → m ≤ l
below_suc m n h l e = omega arith

has_both : (n k a b : ℕ) → 0 < k → b ≤ n → HasBoth k a b
has_both zero k a b p h = at_zero k a b (omega arith)
has_both (suc n) k a b p h =
    elim (cases_eq b 0) [
      | inl e ↦ at_zero k a b e
      | inr ne ↦
          let q : 0 < b = pos_of_ne-zero ne in
          by_step k a b p q (has_both n k b (a % b) p (below_suc (a % b) b (mod-lt a q) n h))
    ]

pub some_gcd : (a b : ℕ) → (g : ℕ) × IsGcd a b g
some_gcd a b = let both = has_both b 1 a b (omega arith) (omega arith) in (both.g, both.plain)

pub scaled_gcd : (k a b g : ℕ) → 0 < k → IsGcd a b g → IsGcd (k * a) (k * b) (k * g)
scaled_gcd k a b g p h =
    let both = has_both b k a b p (omega arith) in
    subst (λ n. IsGcd (k * a) (k * b) (k * n)) (same_from_IsGcd a b both.g g both.plain h) both.scaled

-- what divides c * b and has nothing in common with b divides c
pub divides_other : (a b c : ℕ) → 0 < c → IsGcd a b 1 → a ∣ c * b → a ∣ c
divides_other a b c p h d =
    subst (λ n. a ∣ n) (omega arith) ((scaled_gcd c a b 1 p h).2 a (dvd-mul_left a c) d)

-- ---- lowest terms

-- two numbers in lowest terms whose cross products are equal have the same parts
pub same_lowest : (p d m q : ℕ) → 0 < d → 0 < q → IsGcd p q 1 → IsGcd m d 1 → p * d ≡ m * q → (p ≡ m) × (q ≡ d)
same_lowest p d m q some_d some_q h k e =
    let up : q ∣ d = divides_other q p d some_d (IsGcd-swap p q 1 h)
    (subst (λ n. q ∣ n) (sym (mul_comm d p ∙ e)) (dvd-mul_left q m)) in
    let down : d ∣ q = divides_other d m q some_q (IsGcd-swap m d 1 k)
    (subst (λ n. d ∣ n) (e ∙ mul_comm m q) (dvd-mul_left d p)) in
    let same : q ≡ d = dvd_antisymm up down in
    (eq_of_mul-eq-mul_right d some_d p m (e ∙ ap (λ n. m * n) same), same)

-- what is left of two numbers without their greatest common divisor has none
pub reduced : (a b g : ℕ) → 0 < g → IsGcd (g * a) (g * b) g → IsGcd a b 1
reduced a b g some h =
    let both = has_both b g a b some (omega arith) in
    let e : g * both.g ≡ g * 1 = same_from_IsGcd (g * a) (g * b) (g * both.g) g both.scaled h ∙ omega arith in
    subst (λ n. IsGcd a b n) (eq_of_mul-eq-mul_left g some both.g 1 e) both.plain

-- ---- powers in lowest terms

one_with_all : (a : ℕ) → IsGcd a 1 1
one_with_all a = IsGcd-from_mod a 1 1 (IsGcd-from_zero 1 (a % 1) (omega arith))

-- what has nothing in common with either factor has nothing in common with the product
with_product : (a b c : ℕ) → 0 < c → IsGcd a b 1 → IsGcd a c 1 → IsGcd a (b * c) 1
with_product a b c some h k = (
  k.0,
  one-dvd (b * c),
  λ d x y.
      k.2 d x (divides_other d b c some
      (one-dvd d, one-dvd b, λ e u v. h.2 e (dvd_trans e u x) v)
      (subst (λ n. d ∣ n) (mul_comm b c) y)),
)

with_power : (a b : ℕ) → 0 < b → IsGcd a b 1 → (n : ℕ) → IsGcd a (b ^ n) 1
with_power a b some h zero = subst (λ m. IsGcd a m 1) (sym (pow-zero b)) (one_with_all a)
with_power a b some h (suc n) =
    subst (λ m. IsGcd a m 1) (sym (pow-suc b n)) (with_product a (b ^ n) b some (with_power a b some h n) h)

powers_of : (a b : ℕ) → 0 < a → 0 < b → IsGcd a b 1 → (n : ℕ) → IsGcd (a ^ n) (b ^ n) 1
powers_of a b p q h n =
    IsGcd-swap (b ^ n) (a ^ n) 1
    (with_power (b ^ n) a p (IsGcd-swap a (b ^ n) 1 (with_power a b q h n)) n)

-- 0 has nothing in common with 1 alone
with_zero : (b : ℕ) → IsGcd 0 b 1 → b ≡ 1
with_zero b h = eq-one_of_dvd-one (h.2 b (dvd-zero b) (dvd_refl b))

one_power : (n : ℕ) → 1 ^ n ≡ 1
one_power zero = pow-zero 1
one_power (suc n) = omega (arith, pow-suc 1 n, one_power n)

powers_with_zero : (a b : ℕ) → a ≡ 0 → IsGcd a b 1 → (n : ℕ) → IsGcd (a ^ n) (b ^ n) 1
powers_with_zero a b e h n =
    let one : b ≡ 1 = with_zero b (subst (λ m. IsGcd m b 1) e h) in
    subst (λ m. IsGcd (a ^ n) m 1) (sym (ap (λ m. m ^ n) one ∙ one_power n)) (one_with_all (a ^ n))

-- powers of what has nothing in common have nothing in common
pub lowest_powers : (a b : ℕ) → 0 < b → IsGcd a b 1 → (n : ℕ) → IsGcd (a ^ n) (b ^ n) 1
lowest_powers a b some h n =
    elim (cases_eq a 0) [
      | inl e ↦ powers_with_zero a b e h n
      | inr ne ↦ powers_of a b (pos_of_ne-zero ne) some h n
    ]

-- ---- quotients by a common divisor

no_zero_divides : (b : ℕ) → 0 ∣ b → 0 < b → ⊥
no_zero_divides b d some = omega (arith, div-mul_cancel 0 d)

pub gcd_some : (a b g : ℕ) → IsGcd a b g → 0 < b → 0 < g
gcd_some a b g h some = pos_of_ne-zero (λ e. no_zero_divides b (subst (λ m. m ∣ b) e h.1) some)

pub quotient_some : (b g : ℕ) → g ∣ b → 0 < b → 0 < b / g
quotient_some b g d some = pos_of_ne-zero (λ e. absurd (omega (arith, sym (div-mul_cancel g d), ap (λ m. m * g) e, some)))
