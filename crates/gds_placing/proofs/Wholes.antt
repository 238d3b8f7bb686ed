-- The whole number that a real is, by division, is its value.
use Rattle.std.proofs.Common.{◌≡◌, ℕ, ◌*◌, ◌/◌, ◌%◌, ◌^◌, ◌<◌, Bool, true, false, ◌==◌, if◌then◌else◌, Option, None, Some, ℤ, pos, negsuc, unsigned_abs, refl, sym, ap, ◌∙◌, arith}
use Rattle.std.specs.Option.{option_and_then}
use Rattle.std.proofs.lemmas.Bool.Decides.{nat_tests}
use Rattle.gds_records.specs.declared.real.Real8.{Real8}
use Rattle.gds_records.specs.Reals.{IsValue, magnitude, scale, signed}
use Rattle.gds_placing.specs.Copies.{whole_of, times_of}

-- over any size and any unit that isn't 0
divides : (m u : ℕ) → (m % u == 0) ≡ true → (m / u) * u ≡ m
divides m u e = grind (arith, nat_tests)

quotient : (n u m : ℕ) → 0 < u → n * u ≡ m → m / u ≡ n
quotient n u m h e = grind (arith)

multiple : (n u m : ℕ) → 0 < u → n * u ≡ m → (m % u == 0) ≡ true
multiple n u m h e = grind (arith, nat_tests)

picked : (b : Bool) (z n : ℤ) → (if b then Some z else None) ≡ Some n → (b ≡ true) × (z ≡ n)
picked true z n e = (refl, cc)
picked false z n e = absurd (cc)

pub value_of_whole : (r : Real8) (n : ℤ) → whole_of r ≡ Some n → IsValue r n
value_of_whole r n e =
    let p = picked (magnitude r % scale == 0) (signed r (magnitude r / scale)) n e in
    record { size = magnitude r / scale; scaled = divides (magnitude r) scale p.0; sign = sym p.1 }

cond_true : (b : Bool) (z : ℤ) → b ≡ true → (if b then Some z else None) ≡ Some z
cond_true true z e = refl
cond_true false z e = cc

pub whole_of_value : (r : Real8) (n : ℤ) → IsValue r n → whole_of r ≡ Some n
whole_of_value r n v =
    cond_true (magnitude r % scale == 0) (signed r (magnitude r / scale)) (multiple v.size scale (magnitude r)
    (omega arith) v.scaled)
    ∙ ap (λ k. Some (signed r k)) (quotient v.size scale (magnitude r) (omega arith) v.scaled)
    ∙ ap (λ z. Some z) (sym v.sign)

-- ---- Magnifications

times_far : (z : ℤ) → 2 ^ 40 < unsigned_abs z → times_of z ≡ None
times_far (pos n) h = grind (arith, nat_tests)
times_far (negsuc n) h = refl

pub times_refused : (o : Option ℤ) → ((n : ℤ) → o ≡ Some n → 2 ^ 40 < unsigned_abs n)
    → option_and_then times_of o ≡ None
times_refused None h = refl
times_refused (Some z) h = times_far z (h z refl)
