-- The stretches that tests cut off, of lists that are joined.
use Rattle.std.proofs.Common.{◌≡◌, ◌⊎◌, inl, inr, Bool, true, false, not, cond, ltb, ℕ, zero, suc, ◌+◌, ◌<◌, ◌≤◌, None, Some, List, [], ◌∷◌, ◌++◌, length, take, drop, refl, sym, subst, ap, ◌∙◌, arith}
use Rattle.std.proofs.lemmas.List.{length-take-le, take-append-drop}
use Rattle.std.proofs.lemmas.List.Sums.{prefix_len-le-length}
use Rattle.std.proofs.lemmas.Bool.Decides.{nat_tests}
use Rattle.std.specs.List.{AllByRecursion, before_first, position_or_len}
use Rattle.std.specs.Option.{unwrap_or}
use Rattle.list_facts.proofs.Tests.{by_test, clash}
use Rattle.chunked_list.specs.Stretches.{from_first, IsMonotone}
use Rattle.chunked_list.specs.Working.Places.{begins_passed}

-- the first place, or else the length
pub place_or_length : (n m : ℕ) → n ≤ m → unwrap_or (cond (ltb n m) (Some n) None) m ≡ n
place_or_length n m h = grind (arith, nat_tests)

module _ {X : Type 0} where
  pub place_within : (p : X → Bool) (xs : List X) → position_or_len p xs ≤ length xs
  place_within p xs = prefix_len-le-length (λ x. not (p x)) xs

  take_one_more : (n : ℕ) (x : X) (xs : List X) → take (1 + n) (x ∷ xs) ≡ x ∷ take n xs
  take_one_more n x xs =
      let e : 1 + n ≡ suc n = omega arith in
      ap (λ k. take k (x ∷ xs)) e

  drop_one_more : (n : ℕ) (x : X) (xs : List X) → drop (1 + n) (x ∷ xs) ≡ drop n xs
  drop_one_more n x xs =
      let e : 1 + n ≡ suc n = omega arith in
      ap (λ k. drop k (x ∷ xs)) e

  abbrev pub AllFail : (X → Bool) → List X → Type 0
  AllFail p = AllByRecursion (λ x. p x ≡ false)

module _ {X : Type 0} (p : X → Bool) where
  -- ---- by the first item

  place_passed : (x : X) (xs : List X) → p x ≡ true → position_or_len p (x ∷ xs) ≡ 0
  place_passed x xs e = ap (λ b. cond (not b) (1 + position_or_len p xs) 0) e

  place_failed : (x : X) (xs : List X) → p x ≡ false → position_or_len p (x ∷ xs) ≡ 1 + position_or_len p xs
  place_failed x xs e = ap (λ b. cond (not b) (1 + position_or_len p xs) 0) e

  pub before_passed : (x : X) (xs : List X) → p x ≡ true → before_first p (x ∷ xs) ≡ []
  before_passed x xs e = ap (λ n. take n (x ∷ xs)) (place_passed x xs e)

  pub from_passed : (x : X) (xs : List X) → p x ≡ true → from_first p (x ∷ xs) ≡ x ∷ xs
  from_passed x xs e = ap (λ n. drop n (x ∷ xs)) (place_passed x xs e)

  pub before_failed : (x : X) (xs : List X) → p x ≡ false → before_first p (x ∷ xs) ≡ x ∷ before_first p xs
  before_failed x xs e = ap (λ n. take n (x ∷ xs)) (place_failed x xs e) ∙ take_one_more (position_or_len p xs) x xs

  pub from_failed : (x : X) (xs : List X) → p x ≡ false → from_first p (x ∷ xs) ≡ from_first p xs
  from_failed x xs e = ap (λ n. drop n (x ∷ xs)) (place_failed x xs e) ∙ drop_one_more (position_or_len p xs) x xs

  -- ---- before items of which the first passes, if there are any

  abbrev pub IsStop : List X → Type 0
  IsStop ys = (length ys ≡ 0) ⊎ (begins_passed p ys ≡ true)

  before_stop : (ys : List X) → IsStop ys → before_first p ys ≡ []
  before_stop [] s = refl
  before_stop (y ∷ ys) s = elim s [ inl e ↦ absurd (omega arith) | inr e ↦ before_passed y ys e ]

  from_stop : (ys : List X) → IsStop ys → from_first p ys ≡ ys
  from_stop [] s = refl
  from_stop (y ∷ ys) s = elim s [ inl e ↦ absurd (omega arith) | inr e ↦ from_passed y ys e ]

  pub before_join : (xs ys : List X) → IsStop ys → before_first p (xs ++ ys) ≡ before_first p xs
  before_join [] ys s = before_stop ys s
  before_join (x ∷ xs) ys s =
      by_test (p x)
      (λ e. before_passed x (xs ++ ys) e ∙ sym (before_passed x xs e))
      (λ e. before_failed x (xs ++ ys) e ∙ (ap (λ zs. x ∷ zs) (before_join xs ys s) ∙ sym (before_failed x xs e)))

  pub from_join : (xs ys : List X) → IsStop ys → from_first p (xs ++ ys) ≡ from_first p xs ++ ys
  from_join [] ys s = from_stop ys s
  from_join (x ∷ xs) ys s =
      by_test (p x)
      (λ e. from_passed x (xs ++ ys) e ∙ ap (λ zs. zs ++ ys) (sym (from_passed x xs e)))
      (λ e. from_failed x (xs ++ ys) e ∙ (from_join xs ys s ∙ ap (λ zs. zs ++ ys) (sym (from_failed x xs e))))

  -- ---- behind items that fail

  pub before_behind : (xs ys : List X) → AllFail p xs → before_first p (xs ++ ys) ≡ xs ++ before_first p ys
  before_behind [] ys a = refl
  before_behind (x ∷ xs) ys a = before_failed x (xs ++ ys) a.0 ∙ ap (λ zs. x ∷ zs) (before_behind xs ys a.1)

  pub from_behind : (xs ys : List X) → AllFail p xs → from_first p (xs ++ ys) ≡ from_first p ys
  from_behind [] ys a = refl
  from_behind (x ∷ xs) ys a = from_failed x (xs ++ ys) a.0 ∙ from_behind xs ys a.1

  -- in a list that ends before the first item that passes, all fail
  pub all_before : (xs : List X) → length xs ≤ position_or_len p xs → AllFail p xs
  all_before [] h = tt
  all_before (x ∷ xs) h =
      by_test (p x)
      (λ e. let k = place_passed x xs e in absurd (omega arith))
      (λ e. let k = place_failed x xs e in (e, all_before xs (omega arith)))

  -- ---- of lists in order

  passes_later : (xs ys : List X) → 0 < length ys → AllByRecursion (λ y. p y ≡ true) (xs ++ ys) → begins_passed p ys ≡ true
  passes_later [] [] l a = absurd (omega arith)
  passes_later [] (y ∷ ys) l a = a.0
  passes_later (x ∷ xs) ys l a = passes_later xs ys l a.1

  pub fails_before : (xs ys : List X) → IsMonotone p (xs ++ ys) → 0 < length ys → begins_passed p ys ≡ false → AllFail p xs
  fails_before [] ys m l e = tt
  fails_before (x ∷ xs) ys m l e =
      by_test (p x)
      (λ t. clash (begins_passed p ys) (passes_later xs ys l (m.0 t)) e)
      (λ f. (f, fails_before xs ys m.1 l e))

  -- behind an item that passes nothing counts
  pub before_ended : (xs ys : List X) → position_or_len p xs < length xs → before_first p (xs ++ ys) ≡ before_first p xs
  before_ended [] ys l = absurd (omega arith)
  before_ended (x ∷ xs) ys l =
      by_test (p x)
      (λ e. before_passed x (xs ++ ys) e ∙ sym (before_passed x xs e))
      (λ e.
      let k = place_failed x xs e in
      before_failed x (xs ++ ys) e ∙ (ap (λ zs. x ∷ zs) (before_ended xs ys (omega arith)) ∙ sym (before_failed x xs e)))

  pub past_failed : (xs : List X) → 0 < length xs → begins_passed p xs ≡ false → position_or_len p xs ≡ 0 → ⊥
  past_failed [] l e z = omega arith
  past_failed (x ∷ xs) l e z = let k = place_failed x xs e in omega arith

  -- ---- what holds of the items on either side of the first that passes

  pub before_fails : (xs : List X) → AllFail p (before_first p xs)
  before_fails [] = tt
  before_fails (x ∷ xs) =
      by_test (p x)
      (λ e. subst (AllFail p) (sym (before_passed x xs e)) tt)
      (λ e. subst (AllFail p) (sym (before_failed x xs e)) (e, before_fails xs))

  pub from_passes : (xs : List X) → IsMonotone p xs → AllByRecursion (λ x. p x ≡ true) (from_first p xs)
  from_passes [] m = tt
  from_passes (x ∷ xs) m =
      by_test (p x)
      (λ e. subst (AllByRecursion (λ y. p y ≡ true)) (sym (from_passed x xs e)) (e, m.0 e))
      (λ e. subst (AllByRecursion (λ y. p y ≡ true)) (sym (from_failed x xs e)) (from_passes xs m.1))

  pub before_and_from : (xs : List X) → before_first p xs ++ from_first p xs ≡ xs
  before_and_from xs = take-append-drop (position_or_len p xs) xs

  -- as many items as stand before the first that passes
  pub drop_before : (xs : List X) → drop (length (before_first p xs)) xs ≡ from_first p xs
  drop_before xs = ap (λ n. drop n xs) (length-take-le (position_or_len p xs) xs (place_within p xs))

  pub monotone_from : (n : ℕ) (xs : List X) → IsMonotone p xs → IsMonotone p (drop n xs)
  monotone_from zero xs m = m
  monotone_from (suc n) [] m = tt
  monotone_from (suc n) (x ∷ xs) m = monotone_from n xs m.1
