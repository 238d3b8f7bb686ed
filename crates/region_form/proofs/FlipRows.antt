-- Which squares sorted flips have above all their lines, and before their first flip.
use Rattle.std.proofs.Common.{◌≡◌, ◌⊎◌, true, false, ◌&&◌, inl, inr, ℤ, ◌<ℤ◌, int_le, int_lt, List, [], ◌∷◌, refl, ◌∙◌, arith}
use Rattle.std.proofs.lemmas.Int.{ints}
use Rattle.std.proofs.lemmas.Bool.{and_left, and_right}
use Rattle.list_facts.specs.EitherOr.{exactly_one}
use Rattle.list_facts.proofs.Tests.{and_known, le_false, le_true, lt_true}
use Rattle.list_facts.proofs.EitherOr.{one_from_left_false, one_from_right_false}
use Rattle.interval_row.specs.declared.span.Span.{Span}
use Rattle.interval_row.specs.Rows.{has}
use Rattle.region_form.specs.declared.flip.Flip.{Flip}
use Rattle.region_form.specs.Flips.{changes, squares, is_odd, AreSorted, AreBelow}
use Rattle.region_form.specs.Climbs.{first_line, LiesBelow}
use Rattle.region_form.proofs.FlipLines.{none_below_line}

-- a row above all lines has the columns that change an odd number of times
pub all_odd : (fs : List Flip) (x y : ℤ) → AreBelow y fs → squares fs x y ≡ is_odd fs x
all_odd [] x y b = refl
all_odd (f ∷ fs) x y b =
    let k : f.y <ℤ y = b.0 in
    let e : (int_le f.y y && changes f x) ≡ changes f x = and_known (int_le f.y y) (changes f x) (le_true f.y y (omega (arith, ints))) in
    let r = all_odd fs x y b.1 in
    cc

-- square (x, y) lies before the first flip: on a row below its line, or on its line and left of it
abbrev pub IsBefore : ℤ → ℤ → List Flip → Type 0
IsBefore x y [] = Unit {0}
IsBefore x y (g ∷ gs) = (y <ℤ g.y) ⊎ ((y ≡ g.y) × (x <ℤ g.x0))

before_rest : (x y : ℤ) (g : Flip) (gs : List Flip) → AreSorted (g ∷ gs) → IsBefore x y (g ∷ gs) → IsBefore x y gs
before_rest x y g [] s b = tt
before_rest x y g (h ∷ hs) s b =
    let k : g.x0 <ℤ g.x1 = s.0 in
    elim b [
      | inl l ↦ elim s.1 [ inl m ↦ inl (omega (arith, ints)) | inr m ↦ let e : g.y ≡ h.y = m.0 in inl (omega (arith, ints)) ]
      | inr l ↦
          let d : y ≡ g.y = l.0 in
          let j : x <ℤ g.x0 = l.1 in
          elim s.1 [ inl m ↦ inl (omega (arith, ints)) | inr m ↦ let e : g.y ≡ h.y = m.0 in let i : g.x1 <ℤ h.x0 = m.1 in inr (omega (arith, ints), omega (arith, ints)) ]
    ]

no_change : (x y : ℤ) (g : Flip) (gs : List Flip) → IsBefore x y (g ∷ gs) → (int_le g.y y && changes g x) ≡ false
no_change x y g gs b =
    elim b [
      | inl l ↦ and_left (int_le g.y y) (changes g x) (le_false g.y y l)
      | inr l ↦ and_right (int_le g.y y) (changes g x) (and_left (int_le g.x0 x) (int_lt x g.x1) (le_false g.x0 x l.1))
    ]

pub none_before : (fs : List Flip) (x y : ℤ) → AreSorted fs → IsBefore x y fs → squares fs x y ≡ false
none_before [] x y s b = refl
none_before (g ∷ gs) x y s b =
    one_from_left_false (int_le g.y y && changes g x) (squares gs x y) (no_change x y g gs b)
    ∙ none_before gs x y s.2 (before_rest x y g gs s b)

before_next : (f : Flip) (fs : List Flip) → AreSorted (f ∷ fs) → IsBefore f.x0 f.y fs
before_next f [] s = tt
before_next f (g ∷ gs) s =
    let k : f.x0 <ℤ f.x1 = s.0 in
    elim s.1 [ inl m ↦ inl m | inr m ↦ let i : f.x1 <ℤ g.x0 = m.1 in inr (m.0, omega (arith, ints)) ]

-- the square above the first flip
pub first_square : (f : Flip) (fs : List Flip) → AreSorted (f ∷ fs) → squares (f ∷ fs) f.x0 f.y ≡ true
first_square f fs s =
    let k : f.x0 <ℤ f.x1 = s.0 in
    let e0 = le_true f.y f.y (omega (arith, ints)) in
    let e1 = le_true f.x0 f.x0 (omega (arith, ints)) in
    let e2 = lt_true f.x0 f.x1 k in
    let e3 = and_known (int_le f.y f.y) (changes f f.x0) e0 in
    let e4 = and_known (int_le f.x0 f.x0) (int_lt f.x0 f.x1) e1 in
    one_from_right_false (int_le f.y f.y && changes f f.x0) (squares fs f.x0 f.y) (none_before fs f.x0 f.y s.2 (before_next f fs s))
    ∙ (e3 ∙ (e4 ∙ e2))

-- below the next line a row shows that no flip has changed yet
pub seen : (row : List Span) (fs : List Flip) (x y : ℤ) → AreSorted fs → LiesBelow y (first_line fs) → exactly_one (has row x) (squares fs x y) ≡ has row x
seen row fs x y s b = one_from_right_false (has row x) (squares fs x y) (none_below_line fs x y s b)
