-- When a wire has its form, by the inputs that it has.
use Rattle.std.proofs.Common.{◌≡◌, ◌↔◌, ℕ, zero, suc, ◌+◌, ◌<◌, ◌^◌, IsTrue, nat_lt, List, length, Option, None, Some, inl, inr, refl, sym, ◌∙◌, ap, subst, arith}
use Rattle.std.proofs.lemmas.Bool.Decides.{nat_tests}
use Rattle.std.proofs.lemmas.Bool.{cases_eq}
use Rattle.std.proofs.lemmas.Option.{same_Some}
use Rattle.std.specs.Prelude.{slice_get}
use Rattle.layer_model.specs.declared.wiring.Wire.{Wire}
use Rattle.layer_model.specs.Wirings.{place_of, input_from, IsWiring}
use Rattle.layer_model.specs.Working.Forms.{IsFormed, AllFormed, AllUsed}

from_test : (a n : ℕ) → IsTrue (nat_lt a n) → a < n
from_test a n t = grind (arith, nat_tests)

to_test : (a n : ℕ) → a < n → IsTrue (nat_lt a n)
to_test a n t = grind (arith, nat_tests)

formed_from : (w : Wire) (n : ℕ) → ((j : ℕ) → w.first ≡ Some j → j < n) → ((j : ℕ) → w.second ≡ Some j → j < n) → (w.first ≡ None → w.second ≡ None) → IsFormed w n
formed_from w n p q o = record { lower = by_place; in_order = o }
  where
    by_place : (k j : ℕ) → place_of w k ≡ Some j → j < n
    by_place zero j e = p j e
    by_place (suc zero) j e = q j e
    by_place (suc (suc k)) j e = absurd cc

pub formed_one : (w : Wire) (n a : ℕ) → w.first ≡ Some a → w.second ≡ None → IsTrue (nat_lt a n) ↔ IsFormed w n
formed_one w n a p q = (
  λ t. formed_from w n (λ j e. let x = same_Some a j (sym p ∙ e) in let y = from_test a n t in omega arith) (λ j e. absurd (let x : Some j ≡ None = sym e ∙ q in cc)) (λ e. absurd (let x : Some a ≡ None = sym p ∙ e in cc)),
  λ f. to_test a n (f.lower 0 a p),
)

pub formed_two : (w : Wire) (n a b : ℕ) → w.first ≡ Some a → w.second ≡ Some b → a < n → IsTrue (nat_lt b n) ↔ IsFormed w n
formed_two w n a b p q h = (
  λ t. formed_from w n (λ j e. let x = same_Some a j (sym p ∙ e) in omega arith) (λ j e. let x = same_Some b j (sym q ∙ e) in let y = from_test b n t in omega arith) (λ e. absurd (let x : Some a ≡ None = sym p ∙ e in cc)),
  λ f. to_test b n (f.lower 1 b q),
)

pub formed_none : (w : Wire) (n a : ℕ) → w.first ≡ Some a → n < a + 1 → IsTrue (nat_lt a n) ↔ IsFormed w n
formed_none w n a p h = (λ t. absurd (let y = from_test a n t in omega arith), λ f. to_test a n (f.lower 0 a p))

-- one more wire
pub formed_more : (ws : List Wire) (n : ℕ) (v : Wire) → slice_get ws n ≡ Some v → IsFormed v n → ((i : ℕ) (w : Wire) → i < n → slice_get ws i ≡ Some w → IsFormed w i) → (i : ℕ) (w : Wire) → i < n + 1 → slice_get ws i ≡ Some w → IsFormed w i
formed_more ws n v e f p i w h q =
    elim (cases_eq i n) [
      | inl s ↦ let x : Some v ≡ Some w = sym e ∙ (ap (slice_get ws) (sym s) ∙ q) in let y : v ≡ w = cc in subst (λ k. IsFormed w k) (sym s) (subst (λ z. IsFormed z n) y f)
      | inr s ↦ p i w (omega arith) q
    ]

pub wiring_from : (ws : List Wire) → length ws < 2 ^ 32 → AllFormed ws → AllUsed ws → IsWiring ws
wiring_from ws few f u =
    record { few = few; lower = λ i k j e. by_wire i k j (slice_get ws i) refl e; in_order = λ i e. order i (slice_get ws i) refl e; used = u }
  where
    by_wire : (i k j : ℕ) (o : Option Wire) → slice_get ws i ≡ o → input_from o k ≡ Some j → j < i
    by_wire i k j None e q = absurd cc
    by_wire i k j (Some w) e q = (f i w e).lower k j q

    order : (i : ℕ) (o : Option Wire) → slice_get ws i ≡ o → input_from o 0 ≡ None → input_from o 1 ≡ None
    order i None e q = refl
    order i (Some w) e q = (f i w e).in_order q

pub formed_of : (ws : List Wire) → IsWiring ws → AllFormed ws
formed_of ws v i w e =
    record { lower = λ k j q. v.lower i k j (ap (λ o. input_from o k) e ∙ q); in_order = λ q. sym (ap (λ o. input_from o 1) e) ∙ v.in_order i (ap (λ o. input_from o 0) e ∙ q) }
