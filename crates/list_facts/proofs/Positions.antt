-- The place of the first that passes a test.
use Rattle.std.proofs.Common.{◌≡◌, ℕ, ◌+◌, ◌<◌, Bool, true, false, cond, List, [], ◌∷◌, length, map, Some, refl, ap, arith}
use Rattle.std.proofs.lemmas.Option.{none-some, same_Some}
use Rattle.std.specs.List.{position_from}

pub position-map : {A B : Type 0} (f : A → B) (test : B → Bool) (n : ℕ) (xs : List A) → position_from (λ x. test (f x)) n xs ≡ position_from test n (map f xs)
position-map f test n [] = refl
position-map f test n (x ∷ xs) = ap (λ r. cond (test (f x)) (Some n) r) (position-map f test (n + 1) xs)

-- it stands among them
pub position_below : {A : Type 0} (test : A → Bool) (n : ℕ) (xs : List A) (j : ℕ) → position_from test n xs ≡ Some j → j < n + length xs
position_below test n [] j e = absurd (none-some j e)
position_below test n (x ∷ xs) j e = by (test x) (position_below test (n + 1) xs j) e
  where
    by : (b : Bool) → (position_from test (n + 1) xs ≡ Some j → j < (n + 1) + length xs) → cond b (Some n) (position_from test (n + 1) xs) ≡ Some j
        → j < n + length (x ∷ xs)
    by true later h = let is : n ≡ j = same_Some n j h in omega (arith, is)
    by false later h = omega (arith, later h)
