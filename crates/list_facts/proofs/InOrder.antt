-- Lists in order: from a sort of different items, and known by their members.
use Rattle.std.proofs.Common.{◌≡◌, ◌+◌, false, inl, inr, ◌↔◌, List, [], ◌∷◌, ◌++◌, get_or, refl, sym, ap, subst, ◌∙◌, arith}
use Rattle.std.proofs.lemmas.Map.Keys.{IsDistinct-IsPermutation, apart_from_distinct, sorted_from_all_adjacent, sorted_head, sorted_tail}
use Rattle.std.specs.Cmp.{IsTotalOrder, tied_itself, eq_by_cmp_equiv}
use Rattle.std.specs.List.{AllByRecursion, Contains, IsDistinct}
use Rattle.std.specs.List.Sorted.{IsSorted, IsPermutation, IsStrictlySortedBy}
use Rattle.std.specs.Ordering.{is_eq, is_lt, ordering_reverse, eq_by_cmp}
use Rattle.std.specs.declared.cmp.Ordering.{Ordering}
use Rattle.std.specs.declared.cmp.Ordering.TheVariants.{Less, Equal, Greater}
use mathlib.Core.Bool.{true≢false}
use Rattle.list_facts.specs.InOrder.{ListsInOrder}
use Rattle.list_facts.proofs.Members.{Has, all_append, has_holds, has_from_contains, contains_from_has}

less : (o : Ordering) → is_eq o ≡ false → is_lt (ordering_reverse o) ≡ false → o ≡ Less
less Less p q = refl
less Equal p q = absurd (true≢false p)
less Greater p q = absurd (true≢false q)

module _ {X : Type 0} (order : X → X → Ordering) (total : IsTotalOrder order) where
  -- no item of the list stands twice
  abbrev pub AreDifferent : List X → Type 0
  AreDifferent = IsDistinct (eq_by_cmp order)

  pub different_permutation : (xs ys : List X) → IsPermutation xs ys → AreDifferent xs → AreDifferent ys
  different_permutation = IsDistinct-IsPermutation (eq_by_cmp order) (eq_by_cmp_equiv total).symm

  pub ordered_from_sorted : (xs : List X) → IsSorted order xs → AreDifferent xs → IsStrictlySortedBy order xs
  unfolding IsStrictlySortedBy
  ordered_from_sorted [] s d = tt
  ordered_from_sorted (x ∷ xs) s d =
      sorted_from_all_adjacent total (x ∷ xs) x (λ k l.
      let a = get_or (x ∷ xs) k x in
      let b = get_or (x ∷ xs) (k + 1) x in
      less (order a b) (apart_from_distinct (eq_by_cmp order) (x ∷ xs) k (k + 1) x d (omega arith) l)
      (ap is_lt (sym (total.antisymm b a)) ∙ s k x (omega arith) l))

  -- one more item behind all others
  pub ordered_push : (xs : List X) (x : X) → IsStrictlySortedBy order xs → AllByRecursion (λ y. order y x ≡ Less) xs → IsStrictlySortedBy order (xs ++ x ∷ [])
  unfolding IsStrictlySortedBy
  ordered_push [] x h a = (tt, tt)
  ordered_push (y ∷ xs) x h a = (all_append (λ z. order y z ≡ Less) xs (x ∷ []) h.0 (a.0, tt), ordered_push xs x h.1 a.1)

  pub first_is_least : (a b : X) (xs : List X) → IsStrictlySortedBy order (a ∷ xs) → Has xs b → order a b ≡ Less
  first_is_least a b xs h k = has_holds (λ y. order a y ≡ Less) xs b (sorted_head order a xs h) k

  not_below_itself : (a : X) → order a a ≡ Less → ⊥
  not_below_itself a e = true≢false (ap is_eq (sym (tied_itself total a) ∙ e))

  one_first : (a b : X) (xs ys : List X) → IsStrictlySortedBy order (a ∷ xs) → IsStrictlySortedBy order (b ∷ ys) → Has (b ∷ ys) a → Has (a ∷ xs) b → a ≡ b
  one_first a b xs ys g h p q =
      elim p [
        | inl e ↦ sym e
        | inr m ↦ elim q [
          | inl e ↦ e
          | inr n ↦ absurd (not_below_itself a (total.trans a b a (first_is_least a b xs g n) (first_is_least b a ys h m)))
        ]
      ]

  among_rest : (a b : X) (xs ys : List X) → a ≡ b → IsStrictlySortedBy order (a ∷ xs) → (x : X) → Has xs x → Has (b ∷ ys) x → Has ys x
  among_rest a b xs ys e g x m p =
      elim p [
        | inl f ↦ absurd (not_below_itself a (subst (λ c. order a c ≡ Less) (sym (e ∙ f)) (first_is_least a x xs g m)))
        | inr n ↦ n
      ]

  same_by_members : (xs ys : List X) → IsStrictlySortedBy order xs → IsStrictlySortedBy order ys → ((x : X) → Has xs x → Has ys x) → ((x : X) → Has ys x → Has xs x) → xs ≡ ys
  same_by_members [] [] g h f k = refl
  same_by_members [] (b ∷ ys) g h f k = absurd (k b (inl refl))
  same_by_members (a ∷ xs) [] g h f k = absurd (f a (inl refl))
  same_by_members (a ∷ xs) (b ∷ ys) g h f k =
      let e : a ≡ b = one_first a b xs ys g h (f a (inl refl)) (k b (inl refl)) in
      let rest : xs ≡ ys = same_by_members xs ys (sorted_tail order a xs g) (sorted_tail order b ys h)
      (λ x m. among_rest a b xs ys e g x m (f x (inr m)))
      (λ x m. among_rest b a ys xs (sym e) h x m (k x (inr m))) in
      λ i. e i ∷ rest i

  -- two lists in order with the same members are equal
  pub ordered_same : (xs ys : List X) → IsStrictlySortedBy order xs → IsStrictlySortedBy order ys → ((x : X) → Contains xs x ↔ Contains ys x) → xs ≡ ys
  ordered_same xs ys g h f =
      same_by_members xs ys g h
      (λ x m. has_from_contains ys x ((f x).0 (contains_from_has xs x m)))
      (λ x m. has_from_contains xs x ((f x).1 (contains_from_has ys x m)))

  -- two lists that hold the same wanted items in order are equal
  pub listed_same : (IsWanted : X → Type 0) (xs ys : List X) → ListsInOrder order IsWanted xs → ListsInOrder order IsWanted ys → xs ≡ ys
  listed_same IsWanted xs ys p q =
      ordered_same xs ys p.ordered q.ordered (λ x. (
        λ h. q.every x (has_holds IsWanted xs x p.each (has_from_contains xs x h)),
        λ h. p.every x (has_holds IsWanted ys x q.each (has_from_contains ys x h)),
      ))
