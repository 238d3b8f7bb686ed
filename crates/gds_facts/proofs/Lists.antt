-- Lists that are cut before an element of theirs.
use Rattle.std.proofs.Common.{◌≡◌, ℕ, ◌+◌, ◌<◌, length, take, drop, get_or, map, append_assoc, refl, sym, ◌∙◌, ap, List, [], ◌∷◌, ◌++◌, ◌⊎◌, inl, inr}
use Rattle.std.proofs.lemmas.List.{take_more, take-append-drop, map-append}
use Rattle.gds_records.specs.Records.{Item}

-- the element is the last, or it is among the others
pub record Within (items before : List Item) (here : Item) : Type 0 where
  pub after : List Item
  pub parts : items ≡ before ++ here ∷ after

pub last_or_within : (items : List Item) (item : Item) (before : List Item) (here : Item) (after : List Item) → items ++ item ∷ [] ≡ before ++ here ∷ after
    → ((before ≡ items) × (here ≡ item)) ⊎ Within items before here
last_or_within [] item [] here after is = inl (refl, (let e : here ≡ item = cc in e))
last_or_within [] item (b ∷ []) here after is = absurd (let e : [] ≡ here ∷ after = cc in cc)
last_or_within [] item (b ∷ c ∷ bs) here after is = absurd (let e : [] ≡ c ∷ (bs ++ here ∷ after) = cc in cc)
last_or_within (x ∷ xs) item [] here after is = inr (record { after = xs; parts = ap (λ i. i ∷ xs) (let e : x ≡ here = cc in e) })
last_or_within (x ∷ xs) item (b ∷ bs) here after is =
    let head : x ≡ b = cc in
    let tail : xs ++ item ∷ [] ≡ bs ++ here ∷ after = cc in
    elim (last_or_within xs item bs here after tail) [
      | inl e ↦ inl ((let whole : b ∷ bs ≡ x ∷ xs = ap (λ i. i ∷ bs) (sym head) ∙ ap (λ those. x ∷ those) e.0 in whole), e.1)
      | inr w ↦ inr (record { after = w.after; parts = ap (λ i. i ∷ xs) head ∙ ap (λ those. b ∷ those) w.parts })
    ]

-- of two cuts of a list one is first, or they are the same
pub data Order (before : List Item) (here : Item) (before' : List Item) (here' : Item) : Type 0 where
  first : Within before' before here → Order before here before' here'
  same : before ≡ before' → here ≡ here' → Order before here before' here'
  second : Within before before' here' → Order before here before' here'

pub compare : (before : List Item) (here : Item) (after : List Item) (before' : List Item) (here' : Item) (after' : List Item) → before ++ here ∷ after ≡ before' ++ here' ∷ after'
    → Order before here before' here'
compare [] here after [] here' after' is = same refl (let e : here ≡ here' = cc in e)
compare [] here after (b ∷ bs) here' after' is = first (record { after = bs; parts = ap (λ i. i ∷ bs) (let e : b ≡ here = cc in e) })
compare (b ∷ bs) here after [] here' after' is = second (record { after = bs; parts = ap (λ i. i ∷ bs) (let e : b ≡ here' = cc in e) })
compare (b ∷ bs) here after (c ∷ cs) here' after' is =
    let head : b ≡ c = cc in
    let tail : bs ++ here ∷ after ≡ cs ++ here' ∷ after' = cc in
    elim (compare bs here after cs here' after' tail) [
      | first w ↦ first (record { after = w.after; parts = ap (λ those. c ∷ those) w.parts ∙ ap (λ i. i ∷ (bs ++ here ∷ w.after)) (sym head) })
      | same p q ↦ same (ap (λ i. i ∷ bs) head ∙ ap (λ those. c ∷ those) p) q
      | second w ↦ second (record { after = w.after; parts = ap (λ those. b ∷ those) w.parts ∙ ap (λ i. i ∷ (cs ++ here' ∷ w.after)) head })
    ]

-- a list is what stands before one of its elements, the element, and what stands behind it
pub parted : {A B : Type 0} (f : A → B) (xs : List A) (i : ℕ) (x : A) → i < length xs → x ≡ get_or xs i x → map f xs ≡ map f (take i xs) ++ f x ∷ map f (drop (i + 1) xs)
parted f xs i x below is =
    let rest = drop (i + 1) xs in
    let cut : xs ≡ (take i xs ++ x ∷ []) ++ rest =
    sym (take-append-drop (i + 1) xs) ∙ ap (λ those. those ++ rest) (take_more xs i x below ∙ ap (λ y. take i xs ++ y ∷ []) (sym is)) in
    ap (map f) cut ∙ map-append f (take i xs ++ x ∷ []) rest ∙ ap (λ those. those ++ map f rest) (map-append f (take i xs) (x ∷ []))
    ∙ append_assoc (map f (take i xs)) (f x ∷ []) (map f rest)
