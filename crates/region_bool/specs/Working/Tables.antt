-- The tables of the booleans: two bits as a value of 0 to 3, the first for the first region.
use Rattle.std.specs.Prelude.{◌≡◌, Bool, true, false, not, ◌&&◌, ◌||◌, ◌==◌, ℕ, zero, suc, ◌+◌, bit_xor, if◌then◌else◌, refl}
use Rattle.std.proofs.Common.{ap, sym, ◌∙◌, arith}
use Rattle.region_bool.specs.declared.operation.Operation.{Operation}
use Rattle.region_bool.specs.declared.operation.Operation.TheVariants.{And, Or, Not}

abbrev pub odd_of : ℕ → Bool
odd_of zero = false
odd_of (suc n) = not (odd_of n)

-- the value of two bits
abbrev pub value_of : Bool → Bool → ℕ
value_of p q = (if p then 1 else 0) + (if q then 2 else 0)

-- the value that so many flips of either region make
abbrev pub turned : ℕ → ℕ → ℕ
turned a b = value_of (odd_of a) (odd_of b)

abbrev pub inside_of : Operation → ℕ → Bool
inside_of And v = v == 3
inside_of Or v = not (v == 0)
inside_of Not v = v == 1

abbrev pub holds : Operation → Bool → Bool → Bool
holds And p q = p && q
holds Or p q = p || q
holds Not p q = p && not q

xor_first : (p q : Bool) → bit_xor (value_of p q) 1 ≡ value_of (not p) q
xor_first true true = refl
xor_first true false = refl
xor_first false true = refl
xor_first false false = refl

xor_second : (p q : Bool) → bit_xor (value_of p q) 2 ≡ value_of p (not q)
xor_second true true = refl
xor_second true false = refl
xor_second false true = refl
xor_second false false = refl

pub odd_next : (n : ℕ) → odd_of (n + 1) ≡ not (odd_of n)
odd_next n = let e : n + 1 ≡ suc n = omega arith in ap odd_of e

pub turns_first : (a b : ℕ) → bit_xor (turned a b) 1 ≡ turned (a + 1) b
turns_first a b = xor_first (odd_of a) (odd_of b) ∙ ap (λ p. value_of p (odd_of b)) (sym (odd_next a))

pub turns_second : (a b : ℕ) → bit_xor (turned a b) 2 ≡ turned a (b + 1)
turns_second a b = xor_second (odd_of a) (odd_of b) ∙ ap (value_of (odd_of a)) (sym (odd_next b))

pub none_inside : (e : Operation) → inside_of e 0 ≡ false
none_inside And = refl
none_inside Or = refl
none_inside Not = refl

pub by_table : (e : Operation) (p q : Bool) → inside_of e (value_of p q) ≡ holds e p q
by_table And true true = refl
by_table And true false = refl
by_table And false true = refl
by_table And false false = refl
by_table Or true true = refl
by_table Or true false = refl
by_table Or false true = refl
by_table Or false false = refl
by_table Not true true = refl
by_table Not true false = refl
by_table Not false true = refl
by_table Not false false = refl
