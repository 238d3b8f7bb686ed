-- Numbers by their sign and size, multiples of numbers, and what no fraction is.
use Rattle.std.proofs.Common.{◌≡◌, ℕ, zero, suc, ◌*◌, ◌^◌, ◌<◌, ◌≤◌, Bool, true, false, ℤ, pos, negsuc, neg_ℤ, ◌*ℤ◌, refl, sym, ap, subst, ◌∙◌, arith, ◌⊎◌, inl, inr, unsigned_abs, Option, Some, None, int_rem, int_lt, cond, not, ◌==◌, ◌%◌, ◌/◌, to_z, of_z}
use Rattle.std.specs.Int.{IsGcd, ◌∣◌, w128, int_pow}
use Rattle.std.proofs.lemmas.Nat.{mul-le}
use Rattle.std.proofs.lemmas.Nat.Gcd.{dvd_refl}
use Rattle.std.proofs.lemmas.Int.{ints, unsigned_abs-mul, to_z-of_z, fits_signed_from_abs}
use Rattle.std.proofs.Math.IntN.{zero-*ℤ, pos-*ℤ-pos, negsuc-*ℤ-pos}
use Rattle.std.proofs.Math.Nat.{mul_assoc, mul_comm, mul-mod_left, mul-lt-mul_of_pos_right, eq_of_mul-eq-mul_right, dvd-mul_left, one-le-pow, eq-one_of_dvd-one, div-mul_cancel}
use Rattle.drc_num.specs.Fractions.{Fraction, IsLowest, IsNumber, IsExact, most, with_sign_of}
use Rattle.drc_num.specs.Working.Signs.{signed, power_sign}
use Rattle.drc_num.proofs.Divisors.{same_lowest, lowest_powers}

-- ---- multiples

negated_times : (m b : ℕ) → neg_ℤ (pos m) *ℤ pos b ≡ neg_ℤ (pos (m * b))
negated_times zero b = zero-*ℤ (pos b) ∙ omega (arith, ints)
negated_times (suc m) b = negsuc-*ℤ-pos m b

pub signed_times : (s : Bool) (m b : ℕ) → signed s m *ℤ pos b ≡ signed s (m * b)
signed_times true m b = negated_times m b
signed_times false m b = pos-*ℤ-pos m b

pub by_sign : ℤ → Bool
by_sign (pos n) = false
by_sign (negsuc n) = true

as_signed : (z : ℤ) → z ≡ signed (by_sign z) (unsigned_abs z)
unfolding by_sign
as_signed (pos n) = refl
as_signed (negsuc n) = refl

times_times : (z : ℤ) (a b : ℕ) → z *ℤ pos (a * b) ≡ (z *ℤ pos a) *ℤ pos b
times_times z a b =
    subst (λ w. w *ℤ pos (a * b) ≡ (w *ℤ pos a) *ℤ pos b) (sym (as_signed z)) (of_signed (by_sign z) (unsigned_abs z) a b)
  where
    of_signed : (s : Bool) (m a b : ℕ) → signed s m *ℤ pos (a * b) ≡ (signed s m *ℤ pos a) *ℤ pos b
    of_signed s m a b =
        signed_times s m (a * b) ∙ ap (signed s) (sym (mul_assoc m a b))
        ∙ sym (ap (λ w. w *ℤ pos b) (signed_times s m a) ∙ signed_times s (m * a) b)

pub size_of_signed : (s : Bool) (m : ℕ) → unsigned_abs (signed s m) ≡ m
size_of_signed true zero = refl
size_of_signed true (suc m) = refl
size_of_signed false m = refl

-- the cross products of the sizes
pub sizes_cross : (s : Bool) (size den : ℕ) (f : Fraction) → IsNumber (signed s size) den f → unsigned_abs f.num * den ≡ size * f.den
sizes_cross s size den f n =
    sym (unsigned_abs-mul f.num (pos den)) ∙ ap unsigned_abs n ∙ ap unsigned_abs (signed_times s size f.den)
    ∙ size_of_signed s (size * f.den)

-- a number in lowest terms, of which a part doesn't fit, is no fraction
pub is_no_fraction : (s : Bool) (size den : ℕ) → 0 < den → IsGcd size den 1 → (most < size) ⊎ (most < den) → (f : Fraction) → IsLowest f → IsNumber (signed s size) den f → ⊥
is_no_fraction s size den some h big f l n =
    let same = same_lowest (unsigned_abs f.num) den size f.den some l.some l.lowest h (sizes_cross s size den f n) in
    elim big [
      | inl b ↦ omega (arith, l.num_fits, same.0)
      | inr b ↦ omega (arith, l.den_fits, same.1)
    ]

-- ---- common factors

zero_alone : (a : ℕ) → neg_ℤ (pos a) ≡ pos a → a ≡ 0
zero_alone zero e = refl
zero_alone (suc a) e = absurd (omega (arith, ints))

no_size : (m g : ℕ) → 0 < g → m * g ≡ 0 → m ≡ 0
no_size zero g some e = refl
no_size (suc m) g some e = absurd (omega arith)

same_sign : (s t : Bool) (m g : ℕ) → 0 < g → signed s (m * g) ≡ signed t (m * g) → signed s m ≡ signed t m
same_sign true true m g some e = refl
same_sign false false m g some e = refl
same_sign true false m g some e = ap (λ n. neg_ℤ (pos n)) (no_size m g some (zero_alone (m * g) e)) ∙ sym (ap pos (no_size m g some (zero_alone (m * g) e)))
same_sign false true m g some e = ap pos (no_size m g some (zero_alone (m * g) (sym e))) ∙ sym (ap (λ n. neg_ℤ (pos n)) (no_size m g some (zero_alone (m * g) (sym e))))

same_signed : (s t : Bool) (m n g : ℕ) → 0 < g → signed s (m * g) ≡ signed t (n * g) → signed s m ≡ signed t n
same_signed s t m n g some e =
    let sizes : m ≡ n = eq_of_mul-eq-mul_right g some m n
    (sym (size_of_signed s (m * g)) ∙ ap unsigned_abs e ∙ size_of_signed t (n * g)) in
    same_sign s t m g some (e ∙ ap (λ k. signed t (k * g)) (sym sizes)) ∙ ap (signed t) sizes

-- numbers of which a multiple is one number are one number
same_times : (x y : ℤ) (g : ℕ) → 0 < g → x *ℤ pos g ≡ y *ℤ pos g → x ≡ y
same_times x y g some e =
    as_signed x
    ∙ same_signed (by_sign x) (by_sign y) (unsigned_abs x) (unsigned_abs y) g some
    (sym (times_by x g) ∙ e ∙ times_by y g)
    ∙ sym (as_signed y)
  where
    times_by : (z : ℤ) (g : ℕ) → z *ℤ pos g ≡ signed (by_sign z) (unsigned_abs z * g)
    times_by z g = ap (λ w. w *ℤ pos g) (as_signed z) ∙ signed_times (by_sign z) (unsigned_abs z) g

-- one number by any multiple of its parts
times_both : (z w : ℤ) (a b g : ℕ) → (z *ℤ pos a ≡ w *ℤ pos b) → z *ℤ pos (a * g) ≡ (w *ℤ pos g) *ℤ pos b
times_both z w a b g e =
    times_times z a g ∙ ap (λ v. v *ℤ pos g) e ∙ sym (times_times w b g) ∙ ap (λ n. w *ℤ pos n) (mul_comm b g) ∙ times_times w g b

pub raised_number : (num : ℤ) (den g : ℕ) (f : Fraction) → IsNumber num den f → IsNumber (num *ℤ pos g) (den * g) f
raised_number num den g f n = times_both f.num num den f.den g n

pub lowered_number : (num : ℤ) (den g : ℕ) (f : Fraction) → 0 < g → IsNumber (num *ℤ pos g) (den * g) f → IsNumber num den f
lowered_number num den g f some n =
    same_times (f.num *ℤ pos den) (num *ℤ pos f.den) g some
    (sym (times_times f.num den g) ∙ n ∙ sym (times_times num g f.den) ∙ ap (λ m. num *ℤ pos m) (mul_comm g f.den) ∙ times_times num f.den g)

-- what is exact of a number is so of each way to write it
pub exact_raised : (num : ℤ) (den g : ℕ) (answer : Option Fraction) → 0 < g → IsExact num den answer → IsExact (num *ℤ pos g) (den * g) answer
exact_raised num den g (Some f) some e = record { found = raised_number num den g f e.found; none = tt }
exact_raised num den g None some e = record {
  found = tt;
  none = λ f l n. e.none f l (lowered_number num den g f some n);
}

-- a number with this sign and size, in lowest terms
pub lowest_signed : (z : ℤ) (s : Bool) (size den : ℕ) → z ≡ signed s size → 0 < den → IsGcd size den 1 → size ≤ most → den ≤ most → IsLowest (record { num = z; den = den })
lowest_signed z s size den e some h p q =
    let same : unsigned_abs z ≡ size = ap unsigned_abs e ∙ size_of_signed s size in
    record {
      some = some;
      lowest = subst (λ n. IsGcd n den 1) (sym same) h;
      num_fits = omega (arith, p, same);
      den_fits = q;
    }

-- ---- what is whole

pub one_lowest : (a b : Fraction) → IsLowest a → IsLowest b → IsNumber b.num b.den a → a ≡ b
one_lowest a b l k e =
    let sizes : unsigned_abs a.num * b.den ≡ unsigned_abs b.num * a.den =
    sym (unsigned_abs-mul a.num (pos b.den)) ∙ ap unsigned_abs e ∙ unsigned_abs-mul b.num (pos a.den) in
    let same = same_lowest (unsigned_abs a.num) b.den (unsigned_abs b.num) a.den k.some l.some l.lowest k.lowest sizes in
    equal_parts a b (same_times a.num b.num b.den k.some (e ∙ ap (λ n. b.num *ℤ pos n) same.1)) same.1
  where
    equal_parts : (a b : Fraction) → a.num ≡ b.num → a.den ≡ b.den → a ≡ b
    equal_parts a b p q i = record { num = p i; den = q i }

pub isnt_whole : (f : Fraction) → IsLowest f → (f.den ≡ 1 → ⊥) → (w : ℤ) → IsNumber w 1 f → ⊥
isnt_whole f l ne w n =
    let sizes : unsigned_abs f.num * 1 ≡ unsigned_abs w * f.den =
    sym (unsigned_abs-mul f.num (pos 1)) ∙ ap unsigned_abs n ∙ unsigned_abs-mul w (pos f.den) in
    let divides : f.den ∣ unsigned_abs f.num =
    subst (λ m. f.den ∣ m) (sym sizes ∙ omega arith) (dvd-mul_left f.den (unsigned_abs w)) in
    ne (eq-one_of_dvd-one (l.lowest.2 f.den divides (dvd_refl f.den)))

rem_of_signed : (s : Bool) (n d : ℕ) → n % d ≡ 0 → int_rem (signed s n) (pos d) ≡ pos 0
rem_of_signed true zero d e = ap pos e
rem_of_signed true (suc n) d e = ap (λ m. neg_ℤ (pos m)) e
rem_of_signed false n d e = ap pos e

-- a multiple leaves nothing
pub rem_of_multiple : (q : ℤ) (d : ℕ) → int_rem (q *ℤ pos d) (pos d) ≡ pos 0
rem_of_multiple q d =
    ap (λ z. int_rem z (pos d)) (ap (λ w. w *ℤ pos d) (as_signed q) ∙ signed_times (by_sign q) (unsigned_abs q) d)
    ∙ rem_of_signed (by_sign q) (unsigned_abs q * d) d (mul-mod_left (unsigned_abs q) d)

-- a number as what is left of its size, with its sign, times what was divided out
pub as_divided : (z : ℤ) (s : Bool) (size g : ℕ) → z ≡ signed s (size * g) → z ≡ signed s size *ℤ pos g
as_divided z s size g e = e ∙ sym (signed_times s size g)

pub by_test : (z : ℤ) → z ≡ signed (int_lt z (pos 0)) (unsigned_abs z)
by_test (pos n) = ap (λ s. signed s n) (sym (not_below n))
  where
    not_below : (n : ℕ) → int_lt (pos n) (pos 0) ≡ false
    not_below n = grind (arith, ints)
by_test (negsuc n) = refl

pub size_some : (a : ℤ) (b : ℕ) → 0 < unsigned_abs a → 0 < b → 0 < unsigned_abs (a *ℤ pos b)
size_some a b p q = omega (arith, unsigned_abs-mul a (pos b), mul-lt-mul_of_pos_right p q)

-- ---- as the code computes

pub same_exact : {n m : ℤ} {d e : ℕ} {r : Option Fraction} → IsExact n d r → n ≡ m → d ≡ e → IsExact m e r
same_exact {n = n} {m = m} {d = d} {e = e} {r = r} h p q =
    subst (λ z. IsExact z e r) p (subst (λ k. IsExact n k r) q h)

pub fits : (z : ℤ) → unsigned_abs z < 2 ^ 127 → to_z w128 (of_z w128 z) ≡ z
fits z h = to_z-of_z w128 z (fits_signed_from_abs w128 z h)

-- a number by the sign that the code tests and the size that it divides
pub divided_number : (z : ℤ) (size g : ℕ) → unsigned_abs z < 2 ^ 126 → size ≡ unsigned_abs (to_z w128 (of_z w128 z)) → g ∣ size → signed (int_lt (to_z w128 (of_z w128 z)) (pos 0)) (size / g) *ℤ pos g ≡ z
divided_number z size g h e d =
    let same : to_z w128 (of_z w128 z) ≡ z = fits z (omega arith) in
    ap (λ w. signed (int_lt w (pos 0)) (size / g) *ℤ pos g) same
    ∙ signed_times (int_lt z (pos 0)) (size / g) g
    ∙ ap (signed (int_lt z (pos 0))) (div-mul_cancel g d ∙ e ∙ ap unsigned_abs same)
    ∙ sym (by_test z)

pub inverse_signed : (z : ℤ) (den : ℕ) → with_sign_of z den ≡ signed (int_lt z (pos 0)) den
inverse_signed z den = of_sign z den (by_test z)
  where
    of_sign : (z : ℤ) (den : ℕ) → z ≡ signed (int_lt z (pos 0)) (unsigned_abs z) → with_sign_of z den ≡ signed (int_lt z (pos 0)) den
    of_sign (pos n) den e = grind (arith, ints)
    of_sign (negsuc n) den e = refl

-- ---- powers

as_power : (z : ℤ) (n : ℕ) → int_pow z n ≡ signed (power_sign z n) (unsigned_abs z ^ n)
as_power (pos a) n = refl
as_power (negsuc a) n = by_parity (n % 2 == 0) (suc a ^ n)
  where
    by_parity : (even : Bool) (m : ℕ) → cond even (pos m) (neg_ℤ (pos m)) ≡ signed (not even) m
    by_parity true m = refl
    by_parity false m = refl

pub exact_power : (f : Fraction) (n : ℕ) (r : Option Fraction) → IsExact (signed (power_sign f.num n) (unsigned_abs f.num ^ n)) (f.den ^ n) r → IsExact (int_pow f.num n) (f.den ^ n) r
exact_power f n r h = same_exact h (sym (as_power f.num n)) refl

pub some_power : (d n : ℕ) → 0 < d → 0 < d ^ n
some_power d n h = one-le-pow n d h

-- a power of which a part doesn't fit is no fraction
pub no_power : (f : Fraction) (n : ℕ) → IsLowest f → (most < unsigned_abs f.num ^ n) ⊎ (most < f.den ^ n) → IsExact (int_pow f.num n) (f.den ^ n) None
no_power f n l big = exact_power f n None (record {
  found = tt;
  none = is_no_fraction (power_sign f.num n) (unsigned_abs f.num ^ n) (f.den ^ n) (some_power f.den n l.some)
      (lowest_powers (unsigned_abs f.num) f.den l.some l.lowest n) big;
})

product_size : (a b : ℤ) → unsigned_abs a ≤ 2 ^ 62 → unsigned_abs b ≤ 2 ^ 62 → unsigned_abs (a *ℤ b) ≤ 2 ^ 124
product_size a b p q = omega (arith, unsigned_abs-mul a b, mul-le (unsigned_abs a) (unsigned_abs b) (2 ^ 62) (2 ^ 62) p q)

pub product_fits : (a b : ℤ) → unsigned_abs a ≤ 2 ^ 62 → unsigned_abs b ≤ 2 ^ 62 → to_z w128 (of_z w128 (a *ℤ b)) ≡ a *ℤ b
product_fits a b p q = fits (a *ℤ b) (omega (arith, product_size a b p q))

pub product_bound : (a b : ℤ) → unsigned_abs a ≤ 2 ^ 62 → unsigned_abs b ≤ 2 ^ 62 → unsigned_abs (to_z w128 (of_z w128 (a *ℤ b))) ≤ 2 ^ 124
product_bound a b p q = omega (arith, ap unsigned_abs (product_fits a b p q), product_size a b p q)
