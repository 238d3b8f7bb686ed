-- One reference more was found.
use Rattle.std.proofs.Common.{◌≡◌, ℕ, zero, suc, ◌+◌, ◌<◌, List, [], ◌∷◌, ◌++◌, drop, length, get_or, Option, None, Some, refl, sym, ap, ◌∙◌, arith}
use Rattle.std.proofs.lemmas.List.{append_assoc, drop_more}
use Rattle.std.proofs.lemmas.Option.{same_Some, slice_get-get_or, slice_get_within}
use Rattle.std.specs.Prelude.{slice_get}
use Rattle.std.specs.List.{cons_option, filter_map}

pub some_at : {X : Type 0} (xs : List X) (n : ℕ) → n < length xs → (x : X) × (slice_get xs n ≡ Some x)
some_at [] n l = absurd (omega arith)
some_at (x ∷ xs) zero l = (x, refl)
some_at (x ∷ xs) (suc n) l = some_at xs n (omega arith)

at_drop : {X : Type 0} (xs : List X) (n : ℕ) (x : X) → slice_get xs n ≡ Some x → drop n xs ≡ x ∷ drop (n + 1) xs
at_drop xs n x e =
    let l = slice_get_within xs n x e in
    drop_more xs n x l ∙ ap (λ y. y ∷ drop (n + 1) xs) (same_Some (get_or xs n x) x (sym (slice_get-get_or xs n x l) ∙ e))

module _ {X Y : Type 0} (f : X → Option Y) (xs : List X) (n : ℕ) (x : X) (here : slice_get xs n ≡ Some x) where
  pub step : (o : Option Y) → f x ≡ o → filter_map f (drop n xs) ≡ cons_option o (filter_map f (drop (n + 1) xs))
  step o e = ap (filter_map f) (at_drop xs n x here) ∙ ap (λ found. cons_option found (filter_map f (drop (n + 1) xs))) e

  pub one_found : (found : List Y) (y : Y) (whole : List Y) → f x ≡ Some y → found ++ filter_map f (drop n xs) ≡ whole → (found ++ y ∷ []) ++ filter_map f (drop (n + 1) xs) ≡ whole
  one_found found y whole e so_far = append_assoc found (y ∷ []) (filter_map f (drop (n + 1) xs)) ∙ (ap (λ rest. found ++ rest) (sym (step (Some y) e)) ∙ so_far)

  pub none_found : (found : List Y) (whole : List Y) → f x ≡ None → found ++ filter_map f (drop n xs) ≡ whole → found ++ filter_map f (drop (n + 1) xs) ≡ whole
  none_found found whole e so_far = ap (λ rest. found ++ rest) (sym (step None e)) ∙ so_far
