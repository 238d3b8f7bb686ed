-- A region's flips rise, and its squares are those whose columns they have changed an odd number of times.
use Rattle.std.proofs.Common.{◌≡◌, inl, inr, Bool, true, false, ◌&&◌, cond, ℕ, suc, ◌+◌, ℤ, ◌≤ℤ◌, int_le, List, [], ◌∷◌, refl, sym, ap, ◌∙◌, arith}
use Rattle.std.proofs.lemmas.Int.{ints}
use Rattle.std.specs.List.{AllByRecursion}
use Rattle.list_facts.specs.EitherOr.{exactly_one}
use Rattle.list_facts.proofs.Members.{all_weaker}
use Rattle.region_form.specs.declared.flip.Flip.{Flip}
use Rattle.region_form.specs.Flips.{AreSorted, StandsBefore, changes, is_odd, squares}
use Rattle.region_sweep.specs.Counts.{AreWide, Rise, times, times_up_to}
use Rattle.region_bool.specs.Working.Tables.{odd_of}

odd_more : (b : Bool) (n : ℕ) → odd_of (cond b (n + 1) n) ≡ exactly_one b (odd_of n)
odd_more true n = let e : n + 1 ≡ suc n = omega arith in ap odd_of e
odd_more false n = refl

pub odd_squares : (fs : List Flip) (x y : ℤ) → squares fs x y ≡ odd_of (times_up_to fs x y)
odd_squares [] x y = refl
odd_squares (f ∷ fs) x y =
    ap (exactly_one (int_le f.y y && changes f x)) (odd_squares fs x y) ∙ sym (odd_more (int_le f.y y && changes f x) (times_up_to fs x y))

pub odd_column : (fs : List Flip) (x : ℤ) → is_odd fs x ≡ odd_of (times fs x)
odd_column [] x = refl
odd_column (f ∷ fs) x = ap (exactly_one (changes f x)) (odd_column fs x) ∙ sym (odd_more (changes f x) (times fs x))

no_lower : (f g : Flip) → StandsBefore f g → f.y ≤ℤ g.y
no_lower f g s = elim s [ inl l ↦ omega (arith, ints) | inr e ↦ let q : f.y ≡ g.y = e.0 in omega (arith, ints) ]

first_lowest : (f : Flip) (fs : List Flip) → AreSorted (f ∷ fs) → AllByRecursion (λ g. f.y ≤ℤ g.y) fs
first_lowest f [] s = tt
first_lowest f (g ∷ gs) s =
    let l = no_lower f g s.1 in
    (l, all_weaker (λ h. g.y ≤ℤ h.y) (λ h. f.y ≤ℤ h.y) (λ h k. omega (arith, ints)) gs (first_lowest g gs s.2))

pub sorted_rise : (fs : List Flip) → AreSorted fs → Rise fs
sorted_rise [] s = tt
sorted_rise (f ∷ fs) s = (first_lowest f fs s, sorted_rise fs s.2)

pub sorted_wide : (fs : List Flip) → AreSorted fs → AreWide fs
sorted_wide [] s = tt
sorted_wide (f ∷ fs) s = (s.0, sorted_wide fs s.2)
