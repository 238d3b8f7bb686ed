-- A name that is added to a set of names.
use Rattle.std.proofs.Common.{◌≡◌, ℕ, Bool, true, false, not, ◌||◌, List, ◌∷◌, refl, sym, ap, ◌∙◌, inl, inr}
use Rattle.std.specs.Prelude.{nat_eq}
use Rattle.std.specs.Cmp.Lexicographic.{pointwise, same_text}
use Rattle.std.specs.HashSet.{HashSet, PutsKey, contains_by}
use Rattle.std.specs.List.{list_any}
use Rattle.std.proofs.lemmas.Bool.{cases_Bool}
use Rattle.std.proofs.lemmas.List.Sorted.{list_any-IsPermutation}

swapped : (a b : Bool) → (a || b) ≡ (b || a)
swapped true true = refl
swapped true false = refl
swapped false true = refl
swapped false false = refl

there : (b : Bool) → false ≡ not b → b ≡ true
there true e = refl
there false e = e

kept : (a b : Bool) → b ≡ true → a ≡ true → a ≡ (a || b)
kept a b f e = search

unchanged : (a b : Bool) → b ≡ false → a ≡ (a || b)
unchanged true false f = refl
unchanged false false f = refl
unchanged true true f = refl
unchanged false true f = sym f

-- of another name nothing changes
pub one_more : {K S : Type 0} (bytes : K → List ℕ) (k : K) (old new : HashSet K S) (added : Bool) → added ≡ not (contains_by (λ y. pointwise nat_eq (bytes k) (bytes y)) old) → PutsKey old new k added → (q : List ℕ) → contains_by (λ y. pointwise nat_eq q (bytes y)) new ≡ (contains_by (λ y. pointwise nat_eq q (bytes y)) old || pointwise nat_eq q (bytes k))
one_more bytes k old new true e put q =
    sym (list_any-IsPermutation (λ y. pointwise nat_eq q (bytes y)) (k ∷ old.keys) new.keys put)
    ∙ swapped (pointwise nat_eq q (bytes k)) (contains_by (λ y. pointwise nat_eq q (bytes y)) old)
one_more bytes k old new false e put q =
    let had = there (contains_by (λ y. pointwise nat_eq (bytes k) (bytes y)) old) e in
    ap (list_any (λ y. pointwise nat_eq q (bytes y))) put
    ∙ elim (cases_Bool (pointwise nat_eq q (bytes k))) [
      | inl y ↦ kept (contains_by (λ y. pointwise nat_eq q (bytes y)) old) (pointwise nat_eq q (bytes k)) y (ap (λ p. contains_by (λ y. pointwise nat_eq p (bytes y)) old) (same_text q (bytes k) (sym y)) ∙ had)
      | inr n ↦ unchanged (contains_by (λ y. pointwise nat_eq q (bytes y)) old) (pointwise nat_eq q (bytes k)) n
    ]
