-- Exact fractions. A number num / den has a den of at least 1, and two such are one number where their cross products
-- are equal. A fraction is a number in lowest terms whose parts are at most 2^62.
--
--     6 / 4 and 3 / 2 are one number, since 6 * 2 = 3 * 4; the fraction of it is 3 / 2
use Rattle.std.specs.Prelude.{◌≡◌, ℕ, zero, suc, ◌^◌, ◌%◌, ◌/◌, ◌≤◌, ◌<◌, ◌==◌, ◌&&◌, nat_le, if◌then◌else◌, Bool, ℤ, pos, negsuc, neg_ℤ, ◌*ℤ◌, Option, Some, None, IfSome, IfNone, unsigned_abs, int_div}
use Rattle.std.specs.Int.{IsGcd}

pub record Fraction : Type 0 where
  pub num : ℤ
  pub den : ℕ

-- the greatest part that a fraction has, above or below
abbrev pub most : ℕ
most = 2 ^ 62

-- in lowest terms, with parts that fit
pub record IsLowest (f : Fraction) : Type 0 where
  pub some : 0 < f.den
  pub lowest : IsGcd (unsigned_abs f.num) f.den 1
  pub num_fits : unsigned_abs f.num ≤ most
  pub den_fits : f.den ≤ most

-- f is the number num / den
abbrev pub IsNumber : (num : ℤ) (den : ℕ) → Fraction → Type 0
IsNumber num den f = f.num *ℤ pos den ≡ num *ℤ pos f.den

-- the answer is the number num / den, or none, and this only where no fraction is that number
pub record IsExact (num : ℤ) (den : ℕ) (answer : Option Fraction) : Type 0 where
  pub found : IfSome answer (IsNumber num den)
  pub none : IfNone answer ((f : Fraction) → IsLowest f → IsNumber num den f → ⊥)

-- den with the sign of a number
abbrev pub with_sign_of : ℤ → (den : ℕ) → ℤ
with_sign_of (pos n) den = pos den
with_sign_of (negsuc n) den = neg_ℤ (pos den)

-- the numerator of 1 / f, whose denominator is the size of f's numerator; for an f other than 0
abbrev pub inverse_num : Fraction → ℤ
inverse_num f = with_sign_of f.num f.den

-- a / b and b / a over one common den, of which each is the num
abbrev pub raised : (a b : Fraction) → ℤ
raised a b = a.num *ℤ pos b.den

-- the whole part of a / b, rounded toward 0
abbrev pub whole_part : (a b : Fraction) → ℤ
whole_part a b = int_div (raised a b) (raised b a)

-- ---- The fraction of a number, as a function

-- the greatest number that divides both, of those from 1 to n
unfoldable pub greatest_divisor : (a b n : ℕ) → ℕ
greatest_divisor a b zero = 1
greatest_divisor a b (suc n) = if (a % suc n == 0) && (b % suc n == 0) then suc n else greatest_divisor a b n

-- the number num / den in lowest terms, for a den of at least 1
unfoldable pub lowest_of : (num : ℤ) (den : ℕ) → Fraction
lowest_of num den =
    let g = greatest_divisor (unsigned_abs num) den den in record { num = with_sign_of num (unsigned_abs num / g); den = den / g }

abbrev pub fits : Fraction → Bool
fits f = nat_le (unsigned_abs f.num) most && nat_le f.den most

-- the fraction that is the number num / den, where its parts fit in lowest terms
unfoldable pub fraction_of : (num : ℤ) (den : ℕ) → Option Fraction
fraction_of num den = if fits (lowest_of num den) then Some (lowest_of num den) else None
