-- Tests: what `&&`, `||` and `not` make of known parts, and what tests of whole numbers say.
use Rattle.std.proofs.Common.{◌≡◌, Bool, true, false, not, ◌&&◌, ◌||◌, ℤ, T, ◌<ℤ◌, ◌≤ℤ◌, int_le, int_lt, refl, sym, ap, ◌∙◌, arith}
use Rattle.std.proofs.lemmas.Bool.{and_from, and_left, and_right, false_from_ne_true}
use Rattle.std.proofs.lemmas.Float.{T_from_true}
use Rattle.std.proofs.lemmas.Int.{ints, by_lt_z}
use Rattle.std.specs.Cmp.{first_so, second_so, signed_Decides}
use Rattle.std.specs.Ordering.{int_cmp, int_eq, is_lt}
use lib.Signed.{lt_z_yes, le_z_yes}
use mathlib.Core.Bool.{true≢false}
use Rattle.list_facts.specs.Between.{between}
use Rattle.list_facts.specs.EitherOr.{exactly_one}

pub true_from_T : (b : Bool) → T b → b ≡ true
true_from_T true h = refl
true_from_T false h = absurd h

-- nothing is true and false
pub clash : {A : Type 0} (b : Bool) → b ≡ true → b ≡ false → A
clash b p q = absurd (true≢false (sym p ∙ q))

pub clash_with : {A : Type 0} (p q : Bool) → p ≡ q → p ≡ true → q ≡ false → A
clash_with p q e f g = clash p f (e ∙ g)

-- what follows where a test passes, and where it fails
pub by_test : {A : Type 0} (b : Bool) → (b ≡ true → A) → (b ≡ false → A) → A
by_test true f g = f refl
by_test false f g = g refl

-- ---- where a part is known

pub and_known : (p q : Bool) → p ≡ true → (p && q) ≡ q
and_known p q e = ap (λ r. r && q) e

pub and_right_known : (p q : Bool) → q ≡ true → (p && q) ≡ p
and_right_known true q e = e
and_right_known false q e = refl

pub and_false : (p : Bool) → (p && false) ≡ false
and_false true = refl
and_false false = refl

pub or_known : (p q : Bool) → p ≡ false → (p || q) ≡ q
or_known p q e = ap (λ r. r || q) e

pub or_right_known : (p q : Bool) → q ≡ false → (p || q) ≡ p
or_right_known true q e = refl
or_right_known false q e = e

pub and_or : (k p q : Bool) → ((k && p) || (k && q)) ≡ (k && (p || q))
and_or true p q = refl
and_or false p q = refl

pub or_assoc : (p q r : Bool) → (p || (q || r)) ≡ ((p || q) || r)
or_assoc true q r = refl
or_assoc false q r = refl

-- ---- whole numbers

pub lt_true : (x y : ℤ) → x <ℤ y → int_lt x y ≡ true
lt_true x y h = true_from_T _ h.lt

pub le_true : (x y : ℤ) → x ≤ℤ y → int_le x y ≡ true
le_true x y h = true_from_T _ h.le

pub lt_from_true : (x y : ℤ) → int_lt x y ≡ true → x <ℤ y
lt_from_true x y e = lt_z_yes (T_from_true _ e)

pub le_from_true : (x y : ℤ) → int_le x y ≡ true → x ≤ℤ y
le_from_true x y e = le_z_yes (T_from_true _ e)

pub lt_false : (x y : ℤ) → y ≤ℤ x → int_lt x y ≡ false
lt_false x y h = false_from_ne_true _ (λ e. let k : x <ℤ y = lt_from_true x y e in omega (arith, ints))

pub le_false : (x y : ℤ) → y <ℤ x → int_le x y ≡ false
le_false x y h = false_from_ne_true _ (λ e. let k : x ≤ℤ y = le_from_true x y e in omega (arith, ints))

-- a failed test says the other way round
pub le_from_false : (x y : ℤ) → int_lt x y ≡ false → y ≤ℤ x
le_from_false x y e = by_lt_z x y (λ l. clash (int_lt x y) (lt_true x y l) e) (λ l. l)

pub lt_from_false : (x y : ℤ) → int_le x y ≡ false → y <ℤ x
lt_from_false x y e = by_lt_z y x (λ l. l) (λ l. clash (int_le x y) (le_true x y l) e)

pub not_le : (x y : ℤ) → not (int_le x y) ≡ int_lt y x
not_le x y = by_lt_z y x (λ l. ap not (le_false x y l) ∙ sym (lt_true y x l)) (λ l. ap not (le_true x y l) ∙ sym (lt_false y x l))

pub eq_true : (x y : ℤ) → x ≡ y → int_eq x y ≡ true
eq_true x y e = (signed_Decides x y).1 e

pub eq_from_true : (x y : ℤ) → int_eq x y ≡ true → x ≡ y
eq_from_true x y e = (signed_Decides x y).0 e

pub eq_false : (x y : ℤ) → (x ≡ y → ⊥) → int_eq x y ≡ false
eq_false x y f = false_from_ne_true _ (λ e. f (eq_from_true x y e))

pub not_before : (a b : ℤ) → is_lt (int_cmp b a) ≡ false → a ≤ℤ b
not_before a b h = by_lt_z b a (λ l. absurd (grind (arith, ints))) (λ l. l)

-- ---- from one up to another

pub between_true : (lo hi x : ℤ) → lo ≤ℤ x → x <ℤ hi → between lo hi x ≡ true
between_true lo hi x p q = and_from _ _ (le_true lo x p) (lt_true x hi q)

pub between_before : (lo hi x : ℤ) → x <ℤ lo → between lo hi x ≡ false
between_before lo hi x p = and_left _ _ (le_false lo x p)

pub between_past : (lo hi x : ℤ) → hi ≤ℤ x → between lo hi x ≡ false
between_past lo hi x p = and_right (int_le lo x) _ (lt_false x hi p)

pub from_between : (lo hi x : ℤ) → between lo hi x ≡ true → lo ≤ℤ x
from_between lo hi x e = le_from_true lo x (first_so (int_le lo x) (int_lt x hi) e)

pub up_to_between : (lo hi x : ℤ) → between lo hi x ≡ true → x <ℤ hi
up_to_between lo hi x e = lt_from_true x hi (second_so (int_le lo x) (int_lt x hi) e)

-- an end is a place where what lies between changes
pub between_ends : (a b x : ℤ) → a <ℤ b → between a b x ≡ exactly_one (int_le a x) (int_le b x)
between_ends a b x l =
    by_lt_z x a
    (λ p. between_before a b x p ∙ sym (ap (λ q. exactly_one q (int_le b x)) (le_false a x p) ∙ le_false b x (omega (arith, ints))))
    (λ p.
    by_lt_z x b
    (λ q. between_true a b x p q ∙ sym (ap (λ r. exactly_one r (int_le b x)) (le_true a x p) ∙ ap not (le_false b x q)))
    (λ q. between_past a b x q ∙ sym (ap (λ r. exactly_one r (int_le b x)) (le_true a x p) ∙ ap not (le_true b x q))))
