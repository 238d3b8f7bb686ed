-- Numbers that are raised by powers of 2, and lowered.
use Rattle.std.proofs.Common.{◌≡◌, ℕ, ◌+◌, ◌*◌, ◌/◌, ◌%◌, ◌^◌, ◌<◌, ◌≤◌, refl, sym, ap, ◌∙◌, arith}
use Rattle.std.proofs.Math.Nat.{mul-le-mul, mul_assoc, mul-div_cancel, one-le-pow, mod-eq_of_lt}
use Rattle.std.proofs.Math.Pow.{pow_mono}
use Rattle.std.proofs.lemmas.Nat.{pow-add, one_shl}

-- raising by one power and then by another
pub raised_twice : (n i j k : ℕ) → i + j ≡ k → n * 2 ^ k ≡ n * 2 ^ i * 2 ^ j
raised_twice n i j k e = ap (λ m. n * 2 ^ m) (sym e) ∙ ap (λ m. n * m) (pow-add 2 i j) ∙ sym (mul_assoc n (2 ^ i) (2 ^ j))

-- a number that isn't 0 is at least 2^k where it is raised by k or more
pub raised_least : (n by k : ℕ) → 0 < n → k ≤ by → 2 ^ k ≤ n * 2 ^ by
raised_least n by k p h = let m : 1 * 2 ^ k ≤ n * 2 ^ by = mul-le-mul p (pow_mono h) in omega arith

-- what a raised number is lowered to
pub lowered_back : (n by f : ℕ) → n * 2 ^ by ≡ f → f / 2 ^ by ≡ n
lowered_back n by f e = ap (λ m. m / 2 ^ by) (sym e) ∙ mul-div_cancel n (one-le-pow by 2 (omega arith))

-- numbers that are equal once they are raised
pub raised_equal : (m n by : ℕ) → m * 2 ^ by ≡ n * 2 ^ by → m ≡ n
raised_equal m n by e = sym (lowered_back m by (n * 2 ^ by) e) ∙ lowered_back n by (n * 2 ^ by) refl

-- a number that is raised to the scale i, and another that is raised less, are equal by what they differ
pub raised_between : (n f i by k : ℕ) → k + by ≡ i → n * 2 ^ i ≡ f * 2 ^ k → n * 2 ^ by ≡ f
raised_between n f i by k e p = raised_equal (n * 2 ^ by) f k (sym (raised_twice n by k i (let o : by + k ≡ i = omega arith in o)) ∙ p)

-- a shift of 1 that stays in 64 bits
pub unit_is : (by : ℕ) → by < 64 → (1 * 2 ^ by) % 2 ^ 64 ≡ 2 ^ by
unit_is by h = one_shl by 64 h

-- a shift of so small a number stays in 128 bits
pub shift_is : (f by : ℕ) → f < 2 ^ 56 → by ≤ 40 → (f * 2 ^ by) % 2 ^ 128 ≡ f * 2 ^ by
shift_is f by h k = let m : f * 2 ^ by ≤ 2 ^ 56 * 2 ^ 40 = mul-le-mul (let l : f ≤ 2 ^ 56 = omega arith in l) (pow_mono k) in mod-eq_of_lt (let l : f * 2 ^ by < 2 ^ 128 = omega arith in l)
