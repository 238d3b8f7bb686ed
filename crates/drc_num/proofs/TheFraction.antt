-- An exact answer is the fraction of the number.
use Rattle.std.proofs.Common.{◌≡◌, ℕ, zero, suc, ◌*◌, ◌/◌, ◌%◌, ◌<◌, ◌≤◌, ◌^◌, ◌==◌, ◌&&◌, Bool, true, false, cond, ℤ, pos, ◌*ℤ◌, refl, sym, ap, subst, ◌∙◌, arith, ◌⊎◌, inl, inr, unsigned_abs, Option, Some, None, int_lt, IfSome}
use Rattle.std.specs.Prelude.{nat_le}
use Rattle.std.specs.Int.{IsGcd, ◌∣◌, int_pow}
use Rattle.std.proofs.lemmas.Bool.{cases_Bool, cases_eq, and_parts, and_from, and_cases, eq-eqb, eqb-true, le-leb, leb-true}
use Rattle.std.proofs.lemmas.Nat.Gcd.{le_from_IsGcd, le_of_dvd, dvd_of_mod-eq-zero, mod-eq-zero_of_dvd}
use Rattle.std.proofs.Math.Nat.{div-mul_cancel, mul-div_cancel'}
use Rattle.drc_num.specs.Fractions.{Fraction, IsLowest, IsNumber, IsExact, most, with_sign_of, greatest_divisor, lowest_of, fits, fraction_of}
use Rattle.drc_num.specs.Working.Signs.{signed}
use Rattle.drc_num.proofs.Divisors.{same_lowest, reduced, some_gcd, gcd_some, quotient_some}
use Rattle.drc_num.proofs.Numbers.{signed_times, size_of_signed, sizes_cross, raised_number, lowered_number, lowest_signed, one_lowest, as_divided, by_test, inverse_signed, some_power, no_power}

-- the search downwards finds the greatest common divisor
found_divisor : (a b g n : ℕ) → IsGcd a b g → 0 < g → g ≤ n → greatest_divisor a b n ≡ g
unfolding greatest_divisor
found_divisor a b g zero h some le = absurd (omega arith)
found_divisor a b g (suc n) h some le =
    elim (cases_Bool ((a % suc n == 0) && (b % suc n == 0))) [
      | inl passes ↦
          let tests = and_parts (a % suc n == 0) (b % suc n == 0) passes in
          let no_greater : suc n ≤ g = le_from_IsGcd a b g (suc n) h some (dvd_of_mod-eq-zero (suc n) (eqb-true _ _ tests.0)) (dvd_of_mod-eq-zero (suc n) (eqb-true _ _ tests.1)) in
          ap (λ t. cond t (suc n) (greatest_divisor a b n)) passes ∙ omega arith
      | inr fails ↦
          let below : g ≤ n = smaller fails in
          ap (λ t. cond t (suc n) (greatest_divisor a b n)) fails ∙ found_divisor a b g n h some below
    ]
  where
    divides_both : g ≡ suc n → ((a % suc n == 0) && (b % suc n == 0)) ≡ true
    divides_both e = and_from _ _ (eq-eqb _ _ (mod-eq-zero_of_dvd (suc n) (subst (λ m. m ∣ a) e h.0))) (eq-eqb _ _ (mod-eq-zero_of_dvd (suc n) (subst (λ m. m ∣ b) e h.1)))

    smaller : ((a % suc n == 0) && (b % suc n == 0)) ≡ false → g ≤ n
    smaller fails = elim (cases_eq g (suc n)) [ inl e ↦ absurd (let x = divides_both e in let y : true ≡ false = sym x ∙ fails in cc) | inr ne ↦ omega arith ]

its_lowest : (s : Bool) (m d : ℕ) (f : Fraction) → 0 < d → IsGcd m d 1 → f.num ≡ signed s m → f.den ≡ d → fits f ≡ true → IsLowest f
its_lowest s m d f q h fn fd passes =
    let tests = and_parts _ _ passes in
    record {
      some = subst (λ n. 0 < n) (sym fd) q;
      lowest = rw (ap unsigned_abs fn ∙ size_of_signed s m, fd) h;
      num_fits = leb-true _ _ tests.0;
      den_fits = leb-true _ _ tests.1;
    }

its_number : (num : ℤ) (den : ℕ) (s : Bool) (m d g : ℕ) (f : Fraction) → num ≡ signed s m *ℤ pos g → den ≡ d * g → f.num ≡ signed s m → f.den ≡ d → IsNumber num den f
its_number num den s m d g f n e fn fd =
    rw (n, e) (raised_number (signed s m) d g f (ap (λ z. z *ℤ pos d) fn ∙ ap (λ k. signed s m *ℤ pos k) (sym fd)))

in_lowest_terms : (num : ℤ) (den : ℕ) (s : Bool) (m d g : ℕ) (r : Fraction) → 0 < g → num ≡ signed s m *ℤ pos g → den ≡ d * g → IsNumber num den r → IsNumber (signed s m) d r
in_lowest_terms num den s m d g r p n e found = lowered_number (signed s m) d g r p (rw (n, e) at found)

-- an answer that is exact of a number whose parts in lowest terms are these
settled : (num : ℤ) (den : ℕ) (s : Bool) (m d g : ℕ) (f : Fraction) (answer : Option Fraction) → 0 < g → 0 < d → IsGcd m d 1 → num ≡ signed s m *ℤ pos g → den ≡ d * g → f.num ≡ signed s m → f.den ≡ d → IfSome answer IsLowest → IsExact num den answer → answer ≡ cond (fits f) (Some f) None
settled num den s m d g f None p q h n e fn fd low exact =
    elim (cases_Bool (fits f)) [
      | inl passes ↦ absurd (exact.none f (its_lowest s m d f q h fn fd passes) (its_number num den s m d g f n e fn fd))
      | inr fails ↦ sym (ap (λ t. cond t (Some f) None) fails)
    ]
settled num den s m d g f (Some r) p q h n e fn fd low exact =
    let number : IsNumber (signed s m) d r = in_lowest_terms num den s m d g r p n e exact.found in
    let same = same_lowest (unsigned_abs r.num) d m r.den q low.some low.lowest h (sizes_cross s m d r number) in
    let passes : fits f ≡ true = and_from _ _ (le-leb (unsigned_abs f.num) most (let k = low.num_fits in let z = ap unsigned_abs fn ∙ size_of_signed s m in omega (arith, same.0))) (le-leb f.den most (let k = low.den_fits in omega (arith, same.1, fd))) in
    ap Some (one_lowest r f low (its_lowest s m d f q h fn fd passes) (rw (fn, fd) number)) ∙ sym (ap (λ t. cond t (Some f) None) passes)

-- an exact answer, which is in lowest terms where there is one, is the fraction of the number
pub is_the_fraction : (num : ℤ) (den : ℕ) (answer : Option Fraction) → 0 < den → IfSome answer IsLowest → IsExact num den answer → answer ≡ fraction_of num den
unfolding lowest_of fraction_of
is_the_fraction num den answer some low exact =
    let s = int_lt num (pos 0) in
    let both = some_gcd (unsigned_abs num) den in
    let g = both.0 in
    let h : IsGcd (unsigned_abs num) den g = both.1 in
    let p : 0 < g = gcd_some (unsigned_abs num) den g h some in
    let same : greatest_divisor (unsigned_abs num) den den ≡ g = found_divisor (unsigned_abs num) den g den h p (le_of_dvd some h.1) in
    settled num den s (unsigned_abs num / g) (den / g) g (lowest_of num den) answer p (quotient_some den g h.1 some)
    (reduced _ _ g p (rw (mul-div_cancel' g h.0, mul-div_cancel' g h.1) h))
    (as_divided num s (unsigned_abs num / g) g (by_test num ∙ ap (signed s) (sym (div-mul_cancel g h.0))))
    (sym (div-mul_cancel g h.1))
    (ap (λ k. with_sign_of num (unsigned_abs num / k)) same ∙ inverse_signed num (unsigned_abs num / g))
    (ap (λ k. den / k) same) low exact

-- a power of which a part doesn't fit has none
pub no_power_fraction : (f : Fraction) (n : ℕ) → IsLowest f → (most < unsigned_abs f.num ^ n) ⊎ (most < f.den ^ n) → None ≡ fraction_of (int_pow f.num n) (f.den ^ n)
no_power_fraction f n l big = is_the_fraction (int_pow f.num n) (f.den ^ n) None (some_power f.den n l.some) tt (no_power f n l big)
