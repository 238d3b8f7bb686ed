-- What stands at a place of a list that is written, made longer, cut or turned round.
use Rattle.std.proofs.Common.{◌≡◌, ◌⊎◌, inl, inr, ℕ, zero, suc, ◌+◌, ◌<◌, List, [], ◌∷◌, ◌++◌, length, set, take, drop, Some, refl, sym, ap, ◌∙◌, arith}
use Rattle.std.proofs.lemmas.Bool.{cases_eq, cases_lt}
use Rattle.std.proofs.lemmas.Option.{same_Some, slice_get_within, slice_get_past, slice_get-get_or}
use Rattle.std.proofs.lemmas.List.{length-set, get_or-set_same, get_or-set_other}
use Rattle.std.specs.Prelude.{slice_get}

pub written : {X : Type 0} (xs : List X) (i : ℕ) (y : X) → i < length xs → slice_get (set xs i y) i ≡ Some y
written xs i y h = slice_get-get_or (set xs i y) i y (omega (arith, length-set xs i y)) ∙ ap (λ z. Some z) (get_or-set_same xs i y y h)

pub unwritten : {X : Type 0} (xs : List X) (i j : ℕ) (y : X) → (j ≡ i → ⊥) → slice_get (set xs i y) j ≡ slice_get xs j
unwritten xs i j y n =
    elim (cases_lt j (length xs)) [
      | inl h ↦ slice_get-get_or (set xs i y) j y (omega (arith, length-set xs i y)) ∙ (ap (λ z. Some z) (get_or-set_other xs i j y y n) ∙ sym (slice_get-get_or xs j y h))
      | inr h ↦ slice_get_past (set xs i y) j (omega (arith, length-set xs i y)) ∙ sym (slice_get_past xs j h)
    ]

-- a place of a list that is written has what was written, or what was there
pub written_cases : {X : Type 0} (xs : List X) (i j : ℕ) (y z : X) → slice_get (set xs i y) j ≡ Some z → ((j ≡ i) × (z ≡ y)) ⊎ ((j ≡ i → ⊥) × (slice_get xs j ≡ Some z))
written_cases xs i j y z e =
    elim (cases_eq j i) [
      | inl s ↦ inl (s, same_Some z y (sym e ∙ (ap (slice_get (set xs i y)) s ∙ written xs i y (let h = slice_get_within (set xs i y) j z e in let l = length-set xs i y in omega arith))))
      | inr s ↦ inr (s, sym (unwritten xs i j y s) ∙ e)
    ]

pub longer : {X : Type 0} (xs : List X) (x : X) → length (xs ++ x ∷ []) ≡ length xs + 1
longer [] x = refl
longer (y ∷ xs) x = let l = longer xs x in omega arith

pub front : {X : Type 0} (xs ys : List X) (i : ℕ) (x : X) → slice_get xs i ≡ Some x → slice_get (xs ++ ys) i ≡ Some x
front [] ys i x e = absurd (cc)
front (y ∷ xs) ys zero x e = e
front (y ∷ xs) ys (suc i) x e = front xs ys i x e

pub behind : {X : Type 0} (xs ys : List X) (i : ℕ) → slice_get (xs ++ ys) (length xs + i) ≡ slice_get ys i
behind [] ys i = let e : 0 + i ≡ i = omega arith in ap (slice_get ys) e
behind (x ∷ xs) ys i =
    let e : suc (length xs) + i ≡ suc (length xs + i) = omega arith in
    ap (slice_get (x ∷ (xs ++ ys))) e ∙ behind xs ys i

-- a place of two lists is one of the first, or one of the second
pub either : {X : Type 0} (xs ys : List X) (i : ℕ) (x : X) → slice_get (xs ++ ys) i ≡ Some x
    → ((i < length xs) × (slice_get xs i ≡ Some x)) ⊎ ((k : ℕ) × (i ≡ length xs + k) × (slice_get ys k ≡ Some x))
either [] ys i x e = inr (i, (let z : i ≡ 0 + i = omega arith in z), e)
either (y ∷ xs) ys zero x e = inl (omega arith, e)
either (y ∷ xs) ys (suc i) x e =
    elim (either xs ys i x e) [
      | inl (l, g) ↦ inl (omega arith, g)
      | inr (k, p, g) ↦ inr (k, (let z : suc i ≡ suc (length xs) + k = omega arith in z), g)
    ]

only : {X : Type 0} (x y : X) (k : ℕ) → slice_get (y ∷ []) k ≡ Some x → (k ≡ 0) × (x ≡ y)
only x y zero e = (refl, same_Some x y (sym e))
only x y (suc k) e = absurd (cc)

-- a place of a list with one more is one of it, or the last
pub one_more : {X : Type 0} (xs : List X) (i : ℕ) (x y : X) → slice_get (xs ++ y ∷ []) i ≡ Some x
    → ((i < length xs) × (slice_get xs i ≡ Some x)) ⊎ ((i ≡ length xs) × (x ≡ y))
one_more xs i x y e =
    elim (either xs (y ∷ []) i x e) [
      | inl p ↦ inl p
      | inr (k, p, g) ↦ inr ((let z = (only x y k g).0 in omega arith), (only x y k g).1)
    ]

pub at_end : {X : Type 0} (xs : List X) (y : X) → slice_get (xs ++ y ∷ []) (length xs) ≡ Some y
at_end [] y = refl
at_end (x ∷ xs) y = at_end xs y

pub taken : {X : Type 0} (n : ℕ) (xs : List X) (i : ℕ) (x : X) → slice_get (take n xs) i ≡ Some x → (i < n) × (slice_get xs i ≡ Some x)
taken zero xs i x e = absurd (cc)
taken (suc n) [] i x e = absurd (cc)
taken (suc n) (y ∷ xs) zero x e = (omega arith, e)
taken (suc n) (y ∷ xs) (suc i) x e = let t = taken n xs i x e in (omega (arith, t.0), t.1)

pub take_has : {X : Type 0} (n : ℕ) (xs : List X) (i : ℕ) (x : X) → i < n → slice_get xs i ≡ Some x → slice_get (take n xs) i ≡ Some x
take_has zero xs i x l e = absurd (omega arith)
take_has (suc n) [] i x l e = absurd (cc)
take_has (suc n) (y ∷ xs) zero x l e = e
take_has (suc n) (y ∷ xs) (suc i) x l e = take_has n xs i x (omega arith) e

pub dropped : {X : Type 0} (n : ℕ) (xs : List X) (i : ℕ) → slice_get (drop n xs) i ≡ slice_get xs (n + i)
dropped zero xs i = let e : i ≡ 0 + i = omega arith in ap (slice_get xs) e
dropped (suc n) [] i = refl
dropped (suc n) (x ∷ xs) i =
    let e : suc (n + i) ≡ suc n + i = omega arith in
    dropped n xs i ∙ ap (slice_get (x ∷ xs)) e
