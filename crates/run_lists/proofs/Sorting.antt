-- Every list can be sorted, each item once.
use Rattle.std.proofs.Common.{◌≡◌, Bool, true, inl, inr, ◌⊎◌, ◌↔◌, List, [], ◌∷◌, filter, refl, sym, ap, subst, ◌∙◌}
use Rattle.std.specs.Cmp.{IsTotalOrder}
use Rattle.std.specs.List.{AllByRecursion}
use Rattle.std.specs.List.Sorted.{IsStrictlySortedBy}
use Rattle.std.specs.Ordering.{ordering_reverse}
use Rattle.std.specs.declared.cmp.Ordering.{Ordering}
use Rattle.std.specs.declared.cmp.Ordering.TheVariants.{Less, Equal, Greater}
use Rattle.list_facts.specs.InOrder.{ListsInOrder}
use Rattle.list_facts.proofs.Members.{Has, all_from_has, all_weaker, has_holds, has_filter, filter_has, contains_from_has}

module _ {X : Type 0} (order : X → X → Ordering) (total : IsTotalOrder order) (ties : (a b : X) → order a b ≡ Equal → a ≡ b) where
  abbrev put : Ordering → X → X → List X → List X → List X
  put Less x y ys rest = x ∷ y ∷ ys
  put Equal x y ys rest = y ∷ ys
  put Greater x y ys rest = y ∷ rest

  abbrev insert : X → List X → List X
  insert x [] = x ∷ []
  insert x (y ∷ ys) = put (order x y) x y ys (insert x ys)

  put_new : (o : Ordering) (x y : X) (ys rest : List X) → order x y ≡ o → Has rest x → Has (put o x y ys rest) x
  put_new Less x y ys rest e h = inl refl
  put_new Equal x y ys rest e h = inl (sym (ties x y e))
  put_new Greater x y ys rest e h = inr h

  insert_new : (x : X) (ys : List X) → Has (insert x ys) x
  insert_new x [] = inl refl
  insert_new x (y ∷ ys) = put_new (order x y) x y ys (insert x ys) refl (insert_new x ys)

  put_old : (o : Ordering) (x y : X) (ys rest : List X) (z : X) → ((w : X) → Has ys w → Has rest w) → Has (y ∷ ys) z → Has (put o x y ys rest) z
  put_old Less x y ys rest z k h = inr h
  put_old Equal x y ys rest z k h = h
  put_old Greater x y ys rest z k (inl e) = inl e
  put_old Greater x y ys rest z k (inr h) = inr (k z h)

  insert_old : (x : X) (ys : List X) (z : X) → Has ys z → Has (insert x ys) z
  insert_old x [] z h = inr h
  insert_old x (y ∷ ys) z h = put_old (order x y) x y ys (insert x ys) z (insert_old x ys) h

  put_only : (o : Ordering) (x y : X) (ys rest : List X) (z : X) → ((w : X) → Has rest w → (x ≡ w) ⊎ Has ys w) → Has (put o x y ys rest) z → (x ≡ z) ⊎ Has (y ∷ ys) z
  put_only Less x y ys rest z k h = h
  put_only Equal x y ys rest z k h = inr h
  put_only Greater x y ys rest z k (inl e) = inr (inl e)
  put_only Greater x y ys rest z k (inr h) = elim (k z h) [
    | inl e ↦ inl e
    | inr m ↦ inr (inr m)
  ]

  insert_only : (x : X) (ys : List X) (z : X) → Has (insert x ys) z → (x ≡ z) ⊎ Has ys z
  insert_only x [] z h = h
  insert_only x (y ∷ ys) z h = put_only (order x y) x y ys (insert x ys) z (insert_only x ys) h

  above_new : (x y : X) (ys : List X) → order x y ≡ Less → IsStrictlySortedBy order (y ∷ ys) → AllByRecursion (λ z. order x z ≡ Less) (y ∷ ys)
  unfolding IsStrictlySortedBy
  above_new x y ys e s = (e, all_weaker (λ z. order y z ≡ Less) (λ z. order x z ≡ Less) (λ z l. total.trans x y z e l) ys s.0)

  put_sorted : (o : Ordering) (x y : X) (ys rest : List X) → order x y ≡ o → IsStrictlySortedBy order (y ∷ ys) → IsStrictlySortedBy order rest → ((w : X) → Has rest w → (x ≡ w) ⊎ Has ys w)
      → IsStrictlySortedBy order (put o x y ys rest)
  unfolding IsStrictlySortedBy
  put_sorted Less x y ys rest e s r k = (above_new x y ys e s, s)
  put_sorted Equal x y ys rest e s r k = s
  put_sorted Greater x y ys rest e s r k = (all_from_has (λ z. order y z ≡ Less) rest above, r) where
    below : order y x ≡ Less
    below = total.antisymm y x ∙ ap ordering_reverse e

    above : (z : X) → Has rest z → order y z ≡ Less
    above z h = elim (k z h) [
      | inl same ↦ subst (λ w. order y w ≡ Less) same below
      | inr m ↦ has_holds (λ w. order y w ≡ Less) ys z s.0 m
    ]

  insert_sorted : (x : X) (ys : List X) → IsStrictlySortedBy order ys → IsStrictlySortedBy order (insert x ys)
  unfolding IsStrictlySortedBy
  insert_sorted x [] s = (tt, tt)
  insert_sorted x (y ∷ ys) s = put_sorted (order x y) x y ys (insert x ys) refl s (insert_sorted x ys s.1) (insert_only x ys)

  -- the items of a list in order, each once
  abbrev pub sorted : List X → List X
  sorted [] = []
  sorted (x ∷ xs) = insert x (sorted xs)

  is_sorted : (xs : List X) → IsStrictlySortedBy order (sorted xs)
  unfolding IsStrictlySortedBy
  is_sorted [] = tt
  is_sorted (x ∷ xs) = insert_sorted x (sorted xs) (is_sorted xs)

  sorted_has : (xs : List X) (z : X) → Has xs z → Has (sorted xs) z
  sorted_has [] z h = elim h [ ]
  sorted_has (x ∷ xs) z (inl e) = subst (λ w. Has (insert x (sorted xs)) w) e (insert_new x (sorted xs))
  sorted_has (x ∷ xs) z (inr h) = insert_old x (sorted xs) z (sorted_has xs z h)

  has_sorted : (xs : List X) (z : X) → Has (sorted xs) z → Has xs z
  has_sorted [] z h = elim h [ ]
  has_sorted (x ∷ xs) z h = elim (insert_only x (sorted xs) z h) [
    | inl e ↦ inl e
    | inr m ↦ inr (has_sorted xs z m)
  ]

  -- What is wanted can be listed in order where it can be told, and is among finitely many items.
  pub listed : (IsWanted : X → Type 0) (is_wanted : X → Bool) → ((x : X) → IsWanted x ↔ (is_wanted x ≡ true)) → (among : List X) → ((x : X) → IsWanted x → Has among x)
      → ListsInOrder order IsWanted (sorted (filter is_wanted among))
  listed IsWanted is_wanted tells among holds = record {
    each = all_from_has IsWanted (sorted (filter is_wanted among)) (λ x h. (tells x).1 (filter_has is_wanted among x (has_sorted (filter is_wanted among) x h)).1);
    every = λ x w. contains_from_has (sorted (filter is_wanted among)) x (sorted_has (filter is_wanted among) x (has_filter is_wanted among x (holds x w) ((tells x).0 w)));
    ordered = is_sorted (filter is_wanted among);
  }
