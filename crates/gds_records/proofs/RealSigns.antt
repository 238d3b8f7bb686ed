-- A magnitude with a sign, and its distance from the value 1.
use Rattle.std.proofs.Common.{◌≡◌, ℕ, ◌≤◌, pos, neg_ℤ, unsigned_abs, Bool, true, false, if◌then◌else◌, nat_le, refl, arith}
use Rattle.std.proofs.lemmas.Bool.Decides.{nat_tests}
use Rattle.std.proofs.lemmas.Int.{ints}
use mathlib.Core.Bool.{true≢false}
use Rattle.gds_records.specs.declared.real.Real8.{Real8}
use Rattle.gds_records.specs.Reals.{signed, sign_byte}

abs_either : (b : Bool) (k : ℕ) → unsigned_abs (if b then neg_ℤ (pos k) else pos k) ≡ k
abs_either true k = omega (arith, ints)
abs_either false k = omega (arith, ints)

pub abs_signed : (r : Real8) (k : ℕ) → unsigned_abs (signed r k) ≡ k
abs_signed r k = abs_either (nat_le 128 (sign_byte r)) k

without_sign : (b : Bool) (k : ℕ) → b ≡ false → (if b then neg_ℤ (pos k) else pos k) ≡ pos k
without_sign true k e = absurd (true≢false e)
without_sign false k e = refl

not_least : (n : ℕ) → (128 ≤ n → ⊥) → nat_le 128 n ≡ false
not_least n h = grind (arith, nat_tests)

pub signed_positive : (r : Real8) (k : ℕ) → (128 ≤ sign_byte r → ⊥) → signed r k ≡ pos k
signed_positive r k h = without_sign (nat_le 128 (sign_byte r)) k (not_least (sign_byte r) h)
