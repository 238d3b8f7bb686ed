-- The laws of either-or. (`exactly_one false p` is p, and `exactly_one true p` is not p, as it computes.)
use Rattle.std.proofs.Common.{◌≡◌, Bool, true, false, ◌&&◌, ◌||◌, refl, sym, ap, ◌∙◌}
use mathlib.Core.Bool.{true≢false}
use Rattle.list_facts.specs.EitherOr.{exactly_one}

pub one_right_false : (p : Bool) → exactly_one p false ≡ p
one_right_false true = refl
one_right_false false = refl

pub one_from_right_false : (p q : Bool) → q ≡ false → exactly_one p q ≡ p
one_from_right_false p q e = ap (exactly_one p) e ∙ one_right_false p

pub one_from_left_false : (p q : Bool) → p ≡ false → exactly_one p q ≡ q
one_from_left_false p q e = ap (λ r. exactly_one r q) e

pub one_assoc : (p q r : Bool) → exactly_one p (exactly_one q r) ≡ exactly_one (exactly_one p q) r
one_assoc true true true = refl
one_assoc true true false = refl
one_assoc true false r = refl
one_assoc false q r = refl

pub one_comm : (p q : Bool) → exactly_one p q ≡ exactly_one q p
one_comm true true = refl
one_comm true false = refl
one_comm false true = refl
one_comm false false = refl

pub one_itself : (p : Bool) → exactly_one p p ≡ false
one_itself true = refl
one_itself false = refl

-- what is said twice cancels
pub one_twice : (p q : Bool) → exactly_one p (exactly_one p q) ≡ q
one_twice p q = one_assoc p p q ∙ ap (λ r. exactly_one r q) (one_itself p)

pub one_back : (p q : Bool) → exactly_one (exactly_one p q) p ≡ q
one_back p q = one_comm (exactly_one p q) p ∙ one_twice p q

pub one_cancel : (p q r : Bool) → exactly_one p q ≡ exactly_one p r → q ≡ r
one_cancel p q r e = sym (one_twice p q) ∙ (ap (exactly_one p) e ∙ one_twice p r)

-- of two facts that don't hold together, one is either
pub one_from_or : (p q : Bool) → (p && q) ≡ false → (p || q) ≡ exactly_one p q
one_from_or true true e = absurd (true≢false e)
one_from_or true false e = refl
one_from_or false q e = refl
