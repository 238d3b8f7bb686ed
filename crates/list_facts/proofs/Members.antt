-- Membership by cases on the list, beside `Contains`, which goes by place.
use Rattle.std.proofs.Common.{◌≡◌, ℕ, zero, suc, ◌<◌, ◌⊎◌, Bool, true, false, ◌||◌, cond, inl, inr, List, [], ◌∷◌, ◌++◌, length, map, take, drop, slice_index_or, refl, sym, ap, subst, ◌∙◌, arith}
use Rattle.std.proofs.lemmas.List.Sorted.{IsPermutation-sym, Contains-permutation}
use Rattle.std.specs.List.{Contains, AllByRecursion, filter, list_any}
use Rattle.std.specs.List.Sorted.{IsPermutation}
use Rattle.list_facts.proofs.Tests.{clash}

abbrev pub Has : {X : Type 0} → List X → X → Type 0
Has [] x = ⊥
Has (y ∷ ys) x = (y ≡ x) ⊎ Has ys x

module _ {X : Type 0} where
  by_place : (y : X) (ys : List X) (x : X) (k : ℕ) → k < length (y ∷ ys) → slice_index_or (y ∷ ys) k x ≡ x → (y ≡ x) ⊎ Contains ys x
  by_place y ys x zero l e = inl e
  by_place y ys x (suc k) l e = inr (k, omega arith, e)

  pub has_from_contains : (ys : List X) (x : X) → Contains ys x → Has ys x
  has_from_contains [] x h = let l : h.0 < 0 = h.1 in omega arith
  has_from_contains (y ∷ ys) x h = elim (by_place y ys x h.0 h.1 h.2) [ inl e ↦ inl e | inr k ↦ inr (has_from_contains ys x k) ]

  pub contains_from_has : (ys : List X) (x : X) → Has ys x → Contains ys x
  contains_from_has [] x h = absurd h
  contains_from_has (y ∷ ys) x h =
      elim h [
        | inl e ↦ (0, omega arith, e)
        | inr k ↦ let c = contains_from_has ys x k in let l : c.0 < length ys = c.1 in (suc c.0, omega arith, c.2)
      ]

  -- what holds of each member
  pub has_holds : (P : X → Type 0) (ys : List X) (x : X) → AllByRecursion P ys → Has ys x → P x
  has_holds P [] x a h = absurd h
  has_holds P (y ∷ ys) x a h = elim h [ inl e ↦ subst P e a.0 | inr k ↦ has_holds P ys x a.1 k ]

  pub all_from_has : (P : X → Type 0) (ys : List X) → ((x : X) → Has ys x → P x) → AllByRecursion P ys
  all_from_has P [] f = tt
  all_from_has P (y ∷ ys) f = (f y (inl refl), all_from_has P ys (λ x h. f x (inr h)))

  pub each : (P : X → Type 0) (ys : List ((x : X) × P x)) → AllByRecursion P (map (λ e. e.0) ys)
  each P [] = tt
  each P (y ∷ ys) = (y.1, each P ys)

  pub all_append : (P : X → Type 0) (xs ys : List X) → AllByRecursion P xs → AllByRecursion P ys → AllByRecursion P (xs ++ ys)
  all_append P [] ys a b = b
  all_append P (x ∷ xs) ys a b = (a.0, all_append P xs ys a.1 b)

  pub all_take : (P : X → Type 0) (n : ℕ) (xs : List X) → AllByRecursion P xs → AllByRecursion P (take n xs)
  all_take P zero xs a = tt
  all_take P (suc n) [] a = tt
  all_take P (suc n) (x ∷ xs) a = (a.0, all_take P n xs a.1)

  pub all_drop : (P : X → Type 0) (n : ℕ) (xs : List X) → AllByRecursion P xs → AllByRecursion P (drop n xs)
  all_drop P zero xs a = a
  all_drop P (suc n) [] a = tt
  all_drop P (suc n) (x ∷ xs) a = all_drop P n xs a.1

  pub all_weaker : (P Q : X → Type 0) → ((x : X) → P x → Q x) → (xs : List X) → AllByRecursion P xs → AllByRecursion Q xs
  all_weaker P Q f [] a = tt
  all_weaker P Q f (x ∷ xs) a = (f x a.0, all_weaker P Q f xs a.1)

  -- ---- members of `++`, of a filter and of a permutation

  pub has_left : (a b : List X) (x : X) → Has a x → Has (a ++ b) x
  has_left [] b x h = absurd h
  has_left (y ∷ a) b x h = elim h [ inl e ↦ inl e | inr k ↦ inr (has_left a b x k) ]

  pub has_right : (a b : List X) (x : X) → Has b x → Has (a ++ b) x
  has_right [] b x h = h
  has_right (y ∷ a) b x h = inr (has_right a b x h)

  pub has_either : (a b : List X) (x : X) → Has (a ++ b) x → Has a x ⊎ Has b x
  has_either [] b x h = inr h
  has_either (y ∷ a) b x h =
      elim h [
        | inl e ↦ inl (inl e)
        | inr k ↦ elim (has_either a b x k) [ inl m ↦ inl (inr m) | inr m ↦ inr m ]
      ]

  -- the members of a list that has grown by one at its end
  pub has_pushed : (a : List X) (x y : X) → Has (a ++ x ∷ []) y → Has a y ⊎ (x ≡ y)
  has_pushed a x y h = elim (has_either a (x ∷ []) y h) [ inl k ↦ inl k | inr k ↦ elim k [ inl e ↦ inr e | inr m ↦ absurd m ] ]

  kept_more : (b : Bool) (y : X) (ys : List X) (x : X) → Has ys x → Has (cond b (y ∷ ys) ys) x
  kept_more true y ys x h = inr h
  kept_more false y ys x h = h

  kept_first : (b : Bool) (y : X) (ys : List X) → b ≡ true → Has (cond b (y ∷ ys) ys) y
  kept_first true y ys e = inl refl
  kept_first false y ys e = clash false e refl

  kept_cases : (b : Bool) (y : X) (ys : List X) (x : X) → Has (cond b (y ∷ ys) ys) x → ((b ≡ true) × (y ≡ x)) ⊎ Has ys x
  kept_cases true y ys x h = elim h [ inl e ↦ inl (refl, e) | inr k ↦ inr k ]
  kept_cases false y ys x h = inr h

  pub has_filter : (p : X → Bool) (ys : List X) (x : X) → Has ys x → p x ≡ true → Has (filter p ys) x
  has_filter p [] x h e = h
  has_filter p (y ∷ ys) x h e =
      elim h [
        | inl q ↦ subst (λ z. Has (filter p (y ∷ ys)) z) q (kept_first (p y) y (filter p ys) (ap p q ∙ e))
        | inr k ↦ kept_more (p y) y (filter p ys) x (has_filter p ys x k e)
      ]

  pub filter_has : (p : X → Bool) (ys : List X) (x : X) → Has (filter p ys) x → Has ys x × (p x ≡ true)
  filter_has p [] x h = absurd h
  filter_has p (y ∷ ys) x h =
      elim (kept_cases (p y) y (filter p ys) x h) [
        | inl first ↦ (inl first.1, ap p (sym first.1) ∙ first.0)
        | inr k ↦ let rest = filter_has p ys x k in (inr rest.0, rest.1)
      ]

  pub has_permuted : (xs ys : List X) (x : X) → IsPermutation xs ys → Has xs x → Has ys x
  has_permuted xs ys x p h = has_from_contains ys x (Contains-permutation xs ys x p (contains_from_has xs x h))

  pub all_permuted : (P : X → Type 0) (xs ys : List X) → IsPermutation xs ys → AllByRecursion P xs → AllByRecursion P ys
  all_permuted P xs ys p a = all_from_has P ys (λ x h. has_holds P xs x a (has_permuted ys xs x (IsPermutation-sym xs ys p) h))

  -- tests that agree on each item find one in the same lists
  pub any_agree : (test other : X → Bool) → ((x : X) → test x ≡ other x) → (xs : List X) → list_any test xs ≡ list_any other xs
  any_agree test other same [] = refl
  any_agree test other same (x ∷ xs) = ap (λ t. t || list_any test xs) (same x) ∙ ap (λ t. other x || t) (any_agree test other same xs)
