-- Laws of cutting bytes into records: a cut grows at its end, bytes may come behind it, and there is one cut only.
use Rattle.std.proofs.Common.{◌≡◌, ℕ, ◌+◌, ◌/◌, ◌%◌, ◌⊎◌, inl, inr, List, [], ◌∷◌, ◌++◌, length, take, drop, refl, sym, ap, subst, ◌∙◌, arith, append_assoc, length-append}
use Rattle.std.specs.List.{flat_map}
use Rattle.std.proofs.lemmas.List.{append-nil, append_cancel_left, take_at, drop_at}
use Rattle.std.proofs.lemmas.List.Concat.{flat_map-append}
use Rattle.gds_records.specs.Records.{Item, size_of, spelling, endlib, IsGoodLength, ArePlaced, Cuts, end_of, EndsLibrary, ComesNext, IsEnd, AreRecords}
use Rattle.gds_records.proofs.Fronts.{whole_not_partial, whole_not_too_long, whole_not_bad_length}

-- ---- A cut grows at its end

pub end_of-push : (items : List Item) (item : Item) → end_of (items ++ item ∷ []) ≡ end_of items + size_of item
end_of-push items item =
    ap length (flat_map-append spelling items (item ∷ [])) ∙ omega (arith, length-append (flat_map spelling items) (flat_map spelling (item ∷ [])), length-append item.body [])

pub ends_library-push : (items : List Item) (item : Item) → EndsLibrary (items ++ item ∷ []) → item.kind ≡ endlib
ends_library-push [] item ends = ends
ends_library-push (first ∷ []) item ends = ends
ends_library-push (first ∷ next ∷ items) item ends = ends_library-push (next ∷ items) item ends

pub ends_library-pushed : (items : List Item) (item : Item) → item.kind ≡ endlib → EndsLibrary (items ++ item ∷ [])
ends_library-pushed [] item ends = ends
ends_library-pushed (first ∷ []) item ends = ends
ends_library-pushed (first ∷ next ∷ items) item ends = ends_library-pushed (next ∷ items) item ends

placed-push : (at : ℕ) (items : List Item) (item : Item) → ArePlaced at items → (EndsLibrary items → ⊥) → item.at ≡ at + end_of items → IsGoodLength (at + end_of items) (size_of item)
    → ArePlaced at (items ++ item ∷ [])
placed-push at [] item placed goes here good = (omega (arith, here), let P : ℕ → Type 0 = λ n. IsGoodLength n (size_of item) in subst P (omega arith) good)
placed-push at (first ∷ []) item placed goes here good =
    let same : at + end_of (first ∷ []) ≡ at + size_of first = omega (arith, length-append first.body []) in
    let P : ℕ → Type 0 = λ n. IsGoodLength n (size_of item) in
    (placed.0, placed.1, goes, (here ∙ same, subst P same good))
placed-push at (first ∷ next ∷ items) item placed goes here good =
    let same : at + end_of (first ∷ next ∷ items) ≡ at + size_of first + end_of (next ∷ items) = omega (arith, length-append first.body (flat_map spelling (next ∷ items))) in
    let P : ℕ → Type 0 = λ n. IsGoodLength n (size_of item) in
    (placed.0, placed.1, placed.2, placed-push (at + size_of first) (next ∷ items) item placed.3 goes (here ∙ same) (subst P same good))

pub cuts-start : (bytes : List ℕ) → Cuts bytes [] bytes
cuts-start bytes = record { whole = refl; placed = tt }

pub cuts-push : (bytes : List ℕ) (items : List Item) (rest : List ℕ) (item : Item) (more : List ℕ) → Cuts bytes items rest → ComesNext items rest item more
    → Cuts bytes (items ++ item ∷ []) more
cuts-push bytes items rest item more cut next =
    let text : flat_map spelling items ++ (spelling item ++ more) ≡ flat_map spelling (items ++ item ∷ []) ++ more =
    sym (ap (λ (t : List ℕ). t ++ more) (flat_map-append spelling items (item ∷ [])) ∙ ap (λ (t : List ℕ). (flat_map spelling items ++ t) ++ more) (append-nil (spelling item))
    ∙ append_assoc (flat_map spelling items) (spelling item) more) in
    let P : ℕ → Type 0 = λ n. IsGoodLength n (size_of item) in
    record {
      whole = cut.whole ∙ ap (λ (t : List ℕ). flat_map spelling items ++ t) next.whole ∙ text;
      placed = placed-push 0 items item cut.placed next.goes_on (omega (arith, next.here)) (subst P (omega arith) next.good);
    }

-- ---- Bytes may come behind a cut

pub cuts-more : (bytes : List ℕ) (items : List Item) (rest more : List ℕ) → Cuts bytes items rest → Cuts (bytes ++ more) items (rest ++ more)
cuts-more bytes items rest more cut = record {
  whole = ap (λ (t : List ℕ). t ++ more) cut.whole ∙ append_assoc (flat_map spelling items) rest more;
  placed = cut.placed;
}

-- ---- There is one cut only

abbrev item_from : ℕ → ℕ → ℕ → List ℕ → Item
item_from at kind form body = record { at = at; kind = kind; form = form; body = body }

same_items : (a b : Item) → a.at ≡ b.at → a.kind ≡ b.kind → a.form ≡ b.form → a.body ≡ b.body → a ≡ b
same_items a b at kind form body = λ i. item_from (at i) (kind i) (form i) (body i)

-- one text begins with one record, of one length
pub same_front : (a b : Item) (x y : List ℕ) → a.at ≡ b.at → spelling a ++ x ≡ spelling b ++ y → (a ≡ b) × (x ≡ y)
same_front a b x y at text =
    let high : size_of a / 256 ≡ size_of b / 256 = cc in
    let low : size_of a % 256 ≡ size_of b % 256 = cc in
    let kind : a.kind ≡ b.kind = cc in
    let form : a.form ≡ b.form = cc in
    let behind : a.body ++ x ≡ b.body ++ y = cc in
    let long : length a.body ≡ length b.body = omega (arith, high, low) in
    let body : a.body ≡ b.body = sym (take_at a.body x (length a.body) refl) ∙ ap (take (length a.body)) behind ∙ take_at b.body y (length a.body) (sym long) in
    let rest : x ≡ y = sym (drop_at a.body x (length a.body) refl) ∙ ap (drop (length a.body)) behind ∙ drop_at b.body y (length a.body) (sym long) in
    (same_items a b at kind form body, rest)

placed-rest : (at : ℕ) (item : Item) (items : List Item) → ArePlaced at (item ∷ items) → ArePlaced (at + size_of item) items
placed-rest at item [] placed = tt
placed-rest at item (next ∷ items) placed = placed.3

placed-first : (at : ℕ) (item : Item) (items : List Item) → ArePlaced at (item ∷ items) → (item.at ≡ at) × IsGoodLength at (size_of item)
placed-first at item [] placed = placed
placed-first at item (next ∷ items) placed = (placed.0, placed.1)

fronts_at : (at : ℕ) (xs ys : List Item) (r s : List ℕ) → ArePlaced at xs → ArePlaced at ys → flat_map spelling xs ++ r ≡ flat_map spelling ys ++ s
    → (more : List Item) × ((ys ≡ xs ++ more) ⊎ (xs ≡ ys ++ more))
fronts_at at [] ys r s p q text = (ys, inl refl)
fronts_at at (x ∷ xs) [] r s p q text = (x ∷ xs, inr refl)
fronts_at at (x ∷ xs) (y ∷ ys) r s p q text =
    let px = placed-first at x xs p in
    let py = placed-first at y ys q in
    let regrouped : spelling x ++ (flat_map spelling xs ++ r) ≡ spelling y ++ (flat_map spelling ys ++ s) =
    sym (append_assoc (spelling x) (flat_map spelling xs) r) ∙ text ∙ append_assoc (spelling y) (flat_map spelling ys) s in
    let same = same_front x y (flat_map spelling xs ++ r) (flat_map spelling ys ++ s) (px.0 ∙ sym py.0) regrouped in
    let size : at + size_of y ≡ at + size_of x = ap (λ (i : Item). at + size_of i) (sym same.0) in
    let P : ℕ → Type 0 = λ n. ArePlaced n ys in
    let rest = fronts_at (at + size_of x) xs ys r s (placed-rest at x xs p) (subst P size (placed-rest at y ys q)) same.1 in (
      rest.0,
      elim rest.1 as (λ _. (y ∷ ys ≡ x ∷ (xs ++ rest.0)) ⊎ (x ∷ xs ≡ y ∷ (ys ++ rest.0))) [
        | inl longer ↦ inl (ap (λ (i : Item). i ∷ ys) (sym same.0) ∙ ap (λ (is : List Item). x ∷ is) longer)
        | inr shorter ↦ inr (ap (λ (i : Item). i ∷ xs) same.0 ∙ ap (λ (is : List Item). y ∷ is) shorter)
      ],
    )

-- two cuts of the same bytes agree as far as the shorter goes
pub cuts-fronts : (bytes : List ℕ) (items others : List Item) (rest rest' : List ℕ) → Cuts bytes items rest → Cuts bytes others rest'
    → (more : List Item) × ((others ≡ items ++ more) ⊎ (items ≡ others ++ more))
cuts-fronts bytes items others rest rest' one other = fronts_at 0 items others rest rest' one.placed other.placed (sym one.whole ∙ other.whole)

-- ---- What is known where a cut goes on

pub same_rest : (bytes : List ℕ) (items : List Item) (rest rest' : List ℕ) → Cuts bytes items rest → Cuts bytes items rest' → rest ≡ rest'
same_rest bytes items rest rest' one other = append_cancel_left (flat_map spelling items) rest rest' (sym one.whole ∙ other.whole)

record PlacedAt (at : ℕ) (before : List Item) (item : Item) : Type 0 where
  placed : ArePlaced at before
  goes_on : EndsLibrary before → ⊥
  here : item.at ≡ at + end_of before
  good : IsGoodLength (at + end_of before) (size_of item)

placed-split : (at : ℕ) (before : List Item) (item : Item) (after : List Item) → ArePlaced at (before ++ item ∷ after) → PlacedAt at before item
placed-split at [] item after placed =
    let first = placed-first at item after placed in
    let P : ℕ → Type 0 = λ n. IsGoodLength n (size_of item) in
    record { placed = tt; goes_on = λ ends. ends; here = omega (arith, first.0); good = subst P (omega arith) first.1 }
placed-split at (b ∷ []) item after placed =
    let first = placed-first (at + size_of b) item after placed.3 in
    let same : at + size_of b ≡ at + end_of (b ∷ []) = omega (arith, length-append b.body []) in
    let P : ℕ → Type 0 = λ n. IsGoodLength n (size_of item) in
    record { placed = (placed.0, placed.1); goes_on = placed.2; here = first.0 ∙ same; good = subst P same first.1 }
placed-split at (b ∷ c ∷ before) item after placed =
    let rest = placed-split (at + size_of b) (c ∷ before) item after placed.3 in
    let same : at + size_of b + end_of (c ∷ before) ≡ at + end_of (b ∷ c ∷ before) = omega (arith, length-append b.body (flat_map spelling (c ∷ before))) in
    let P : ℕ → Type 0 = λ n. IsGoodLength n (size_of item) in
    record { placed = (placed.0, placed.1, placed.2, rest.placed); goes_on = rest.goes_on; here = rest.here ∙ same; good = subst P same rest.good }

-- where another cut goes on with a record, it comes next
pub comes_next : (bytes : List ℕ) (items : List Item) (rest : List ℕ) (item : Item) (after : List Item) (rest' : List ℕ) → Cuts bytes items rest
    → Cuts bytes (items ++ item ∷ after) rest' → ComesNext items rest item (flat_map spelling after ++ rest')
comes_next bytes items rest item after rest' cut longer =
    let placed = placed-split 0 items item after longer.placed in
    let P : ℕ → Type 0 = λ n. IsGoodLength n (size_of item) in
    let split : Cuts bytes items (spelling item ++ (flat_map spelling after ++ rest')) = record {
      whole = longer.whole ∙ ap (λ (t : List ℕ). t ++ rest') (flat_map-append spelling items (item ∷ after))
          ∙ append_assoc (flat_map spelling items) (spelling item ++ flat_map spelling after) rest'
          ∙ ap (λ (t : List ℕ). flat_map spelling items ++ t) (append_assoc (spelling item) (flat_map spelling after) rest');
      placed = cut.placed;
    } in
    record {
      goes_on = placed.goes_on;
      whole = same_rest bytes items rest _ cut split;
      here = omega (arith, placed.here);
      good = subst P (omega arith) placed.good;
    }

-- where the cut can't go on, no cut goes on
end_is_end : (items : List Item) (rest : List ℕ) (item : Item) (more : List ℕ) → IsEnd items rest → ComesNext items rest item more → ⊥
end_is_end items rest item more ended next =
    elim ended as (λ _. ⊥) [
      | inl ends ↦ next.goes_on ends
      | inr stuck ↦ elim stuck as (λ _. ⊥) [
        | inl partial ↦ whole_not_partial (end_of items) rest item more next.whole partial
        | inr refused ↦ elim refused as (λ _. ⊥) [
          | inl long ↦ whole_not_too_long (end_of items) rest item more next.whole next.good long
          | inr wrong ↦ whole_not_bad_length (end_of items) rest item more next.whole next.good wrong
        ]
      ]
    ]

-- the records of a stream are determined by its bytes
pub records_are_one : (bytes : List ℕ) (items others : List Item) (rest rest' : List ℕ) → AreRecords bytes items rest → AreRecords bytes others rest'
    → (items ≡ others) × (rest ≡ rest')
records_are_one bytes items others rest rest' one other =
    let fronts = cuts-fronts bytes items others rest rest' one.cut other.cut in
    elim fronts.1 as (λ _. (items ≡ others) × (rest ≡ rest')) [
      | inl longer ↦ sames bytes items rest fronts.0 others rest' one other longer
      | inr shorter ↦ let turned = sames bytes others rest' fronts.0 items rest other one shorter in (sym turned.0, sym turned.1)
    ]
  where
    sames : (bytes : List ℕ) (items : List Item) (rest : List ℕ) (more others : List Item) (rest' : List ℕ) → AreRecords bytes items rest → AreRecords bytes others rest'
        → others ≡ items ++ more → (items ≡ others) × (rest ≡ rest')
    sames bytes items rest [] others rest' one other longer =
        let same : others ≡ items = longer ∙ append-nil items in
        let P : List Item → Type 0 = λ is. Cuts bytes is rest' in
        (sym same, same_rest bytes items rest rest' one.cut (subst P same other.cut))
    sames bytes items rest (item ∷ more) others rest' one other longer =
        let P : List Item → Type 0 = λ is. Cuts bytes is rest' in
        absurd (end_is_end items rest item _ one.all (comes_next bytes items rest item more rest' one.cut (subst P longer other.cut)))
