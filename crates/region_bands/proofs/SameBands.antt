-- Two lists of canonical bands that have the same squares are the same list.
use Rattle.std.proofs.Common.{◌≡◌, false, inl, inr, ℤ, ◌<ℤ◌, ◌≤ℤ◌, List, [], ◌∷◌, refl, sym, ◌∙◌, arith}
use Rattle.std.proofs.lemmas.Int.{ints, by_lt_z}
use Rattle.list_facts.proofs.Tests.{clash_with}
use Rattle.interval_row.specs.Rows.{has}
use Rattle.interval_row.proofs.SamePlaces.{same_rows}
use Rattle.region_bands.specs.declared.band.Band.{Band}
use Rattle.region_bands.specs.Bands.{squares_of_bands, AreBands}
use Rattle.region_bands.proofs.BandRows.{first_row, past_first, none_under, starts_after, some_place}

-- the two lists have the same squares
abbrev Agree : List Band → List Band → Type 0
Agree a b = (x y : ℤ) → squares_of_bands a x y ≡ squares_of_bands b x y

-- the first band of the one list begins no lower than that of the other
begins_low : (a b : Band) (cs bs : List Band) → AreBands (a ∷ cs) → AreBands (b ∷ bs) → Agree (a ∷ cs) (b ∷ bs) → b.y0 ≤ℤ a.y0
begins_low a b cs bs p q h =
    let x = some_place a.row p.1 p.2 in
    by_lt_z a.y0 b.y0
    (λ l. clash_with _ _ (h x.0 a.y0) (first_row a cs x.0 a.y0 p (omega (arith, ints)) p.0 ∙ x.1) (none_under (b ∷ bs) x.0 a.y0 q l))
    (λ l. l)

row_same : (a b : Band) (cs bs : List Band) → AreBands (a ∷ cs) → AreBands (b ∷ bs) → a.y0 ≡ b.y0 → Agree (a ∷ cs) (b ∷ bs) → a.row ≡ b.row
row_same a b cs bs p q e h =
    let k : b.y0 <ℤ b.y1 = q.0 in
    same_rows a.row b.row p.1 q.1 (λ x. sym (first_row a cs x a.y0 p (omega (arith, ints)) p.0) ∙ (h x a.y0 ∙ first_row b bs x a.y0 q (omega (arith, ints)) (omega (arith, ints))))

-- where the first band ends and no band of its row touches it, the row of the other list is not this row
row_ends : (a : Band) (cs : List Band) → AreBands (a ∷ cs) → ((x : ℤ) → squares_of_bands cs x a.y1 ≡ has a.row x) → ⊥
row_ends a [] p h = let x = some_place a.row p.1 p.2 in clash_with _ _ (sym (h x.0)) x.1 refl
row_ends a (c ∷ cs) p h =
    elim p.3 [
      | inl l ↦ let x = some_place a.row p.1 p.2 in clash_with _ _ (sym (h x.0)) x.1 (none_under (c ∷ cs) x.0 a.y1 p.4 l)
      | inr t ↦
          let e : a.y1 ≡ c.y0 = t.0 in
          let k : c.y0 <ℤ c.y1 = p.4.0 in
          t.1 (same_rows a.row c.row p.1 p.4.1 (λ x. sym (h x) ∙ first_row c cs x a.y1 p.4 (omega (arith, ints)) (omega (arith, ints))))
    ]

-- the first bands begin together and have one row: the one ends no lower than the other
ends_low : (a b : Band) (cs bs : List Band) → AreBands (a ∷ cs) → AreBands (b ∷ bs) → a.y0 ≡ b.y0 → a.row ≡ b.row → Agree (a ∷ cs) (b ∷ bs) → b.y1 ≤ℤ a.y1
ends_low a b cs bs p q e f h =
    let k : a.y0 <ℤ a.y1 = p.0 in
    let same_has : (x : ℤ) → has b.row x ≡ has a.row x = λ x. cc in
    by_lt_z a.y1 b.y1
    (λ l. absurd (row_ends a cs p (λ x. sym (past_first a cs x a.y1 (omega (arith, ints))) ∙ (h x a.y1 ∙ (first_row b bs x a.y1 q (omega (arith, ints)) l ∙ same_has x)))))
    (λ l. l)

same_band : (a b : Band) → a.y0 ≡ b.y0 → a.y1 ≡ b.y1 → a.row ≡ b.row → a ≡ b
same_band a b p q r = λ i. record { y0 = p i; y1 = q i; row = r i }

rest_same : (a b : Band) (cs bs : List Band) → AreBands (a ∷ cs) → AreBands (b ∷ bs) → a.y1 ≡ b.y1 → Agree (a ∷ cs) (b ∷ bs) → Agree cs bs
rest_same a b cs bs p q e h x y =
    by_lt_z y a.y1
    (λ l. none_under cs x y p.4 (starts_after a cs y p.3 l) ∙ sym (none_under bs x y q.4 (starts_after b bs y q.3 (omega (arith, ints)))))
    (λ l. sym (past_first a cs x y l) ∙ (h x y ∙ past_first b bs x y (omega (arith, ints))))

not_none : (a : Band) (cs : List Band) → AreBands (a ∷ cs) → ((x y : ℤ) → squares_of_bands (a ∷ cs) x y ≡ false) → ⊥
not_none a cs p h =
    let x = some_place a.row p.1 p.2 in
    clash_with _ _ (h x.0 a.y0) (first_row a cs x.0 a.y0 p (omega (arith, ints)) p.0 ∙ x.1) refl

pub same_bands : (a b : List Band) → AreBands a → AreBands b → Agree a b → a ≡ b
same_bands [] [] p q h = refl
same_bands [] (b ∷ bs) p q h = absurd (not_none b bs q (λ x y. sym (h x y)))
same_bands (a ∷ cs) [] p q h = absurd (not_none a cs p h)
same_bands (a ∷ cs) (b ∷ bs) p q h =
    let l1 = begins_low a b cs bs p q h in
    let l2 = begins_low b a bs cs q p (λ x y. sym (h x y)) in
    let low : a.y0 ≡ b.y0 = omega (arith, ints) in
    let row = row_same a b cs bs p q low h in
    let l3 = ends_low a b cs bs p q low row h in
    let l4 = ends_low b a bs cs q p (sym low) (sym row) (λ x y. sym (h x y)) in
    let high : a.y1 ≡ b.y1 = omega (arith, ints) in
    let e = same_band a b low high row in
    let f = same_bands cs bs p.4 q.4 (rest_same a b cs bs p q high h) in
    cc
