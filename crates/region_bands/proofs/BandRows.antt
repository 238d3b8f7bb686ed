-- Which squares canonical bands have, under, in and past their first band.
use Rattle.std.proofs.Common.{◌≡◌, true, false, inl, inr, ℤ, ◌<ℤ◌, ◌≤ℤ◌, List, [], ◌∷◌, refl, ◌∙◌, arith}
use Rattle.std.proofs.lemmas.Int.{ints}
use Rattle.std.proofs.lemmas.Bool.{and_left}
use Rattle.list_facts.proofs.Tests.{or_known, or_right_known, and_known, between_true, between_before, between_past}
use Rattle.interval_row.specs.declared.span.Span.{Span}
use Rattle.interval_row.specs.Rows.{has, IsRow}
use Rattle.interval_row.proofs.Places.{has_inside}
use Rattle.region_bands.specs.declared.band.Band.{Band}
use Rattle.region_bands.specs.Bands.{squares_of_band, squares_of_bands, EndsBeforeFirst, AreBands}

pub band_inside : (b : Band) (x y : ℤ) → b.y0 ≤ℤ y → y <ℤ b.y1 → squares_of_band b x y ≡ has b.row x
band_inside b x y p q = and_known _ (has b.row x) (between_true b.y0 b.y1 y p q)

pub band_under : (b : Band) (x y : ℤ) → y <ℤ b.y0 → squares_of_band b x y ≡ false
band_under b x y p = and_left _ (has b.row x) (between_before b.y0 b.y1 y p)

pub band_past : (b : Band) (x y : ℤ) → b.y1 ≤ℤ y → squares_of_band b x y ≡ false
band_past b x y p = and_left _ (has b.row x) (between_past b.y0 b.y1 y p)

-- the first band begins above row y
abbrev pub StartsAbove : ℤ → List Band → Type 0
StartsAbove y [] = Unit {0}
StartsAbove y (b ∷ bs) = y <ℤ b.y0

pub starts_after : (b : Band) (bs : List Band) (y : ℤ) → EndsBeforeFirst b bs → y <ℤ b.y1 → StartsAbove y bs
starts_after b [] y e h = tt
starts_after b (c ∷ cs) y e h = elim e [ inl l ↦ omega (arith, ints) | inr t ↦ let q : b.y1 ≡ c.y0 = t.0 in omega (arith, ints) ]

pub none_under : (bs : List Band) (x y : ℤ) → AreBands bs → StartsAbove y bs → squares_of_bands bs x y ≡ false
none_under [] x y a s = refl
none_under (b ∷ bs) x y a s =
    let h : b.y0 <ℤ b.y1 = a.0 in
    or_known (squares_of_band b x y) (squares_of_bands bs x y) (band_under b x y s)
    ∙ none_under bs x y a.4 (starts_after b bs y a.3 (omega (arith, ints)))

pub first_row : (b : Band) (bs : List Band) (x y : ℤ) → AreBands (b ∷ bs) → b.y0 ≤ℤ y → y <ℤ b.y1 → squares_of_bands (b ∷ bs) x y ≡ has b.row x
first_row b bs x y a p q =
    or_right_known (squares_of_band b x y) (squares_of_bands bs x y) (none_under bs x y a.4 (starts_after b bs y a.3 q))
    ∙ band_inside b x y p q

pub past_first : (b : Band) (bs : List Band) (x y : ℤ) → b.y1 ≤ℤ y → squares_of_bands (b ∷ bs) x y ≡ squares_of_bands bs x y
past_first b bs x y p = or_known (squares_of_band b x y) (squares_of_bands bs x y) (band_past b x y p)

-- a row that isn't empty has a place
pub some_place : (row : List Span) → IsRow row → (row ≡ [] → ⊥) → (x : ℤ) × (has row x ≡ true)
some_place [] r n = absurd (n refl)
some_place (s ∷ ss) r n = let h : s.lo <ℤ s.hi = r.0 in (s.lo, has_inside s ss s.lo (omega (arith, ints)) h)
