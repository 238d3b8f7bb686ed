-- Two lists of sorted flips that have the same squares are equal.
use Rattle.std.proofs.Common.{◌≡◌, Bool, true, false, ◌&&◌, inl, inr, ℤ, ◌<ℤ◌, ◌≤ℤ◌, int_le, int_lt, List, [], ◌∷◌, refl, sym, ◌∙◌, ap, arith}
use Rattle.std.proofs.lemmas.Int.{ints, by_lt_z}
use mathlib.Core.Bool.{true≢false}
use Rattle.list_facts.proofs.EitherOr.{one_cancel, one_right_false}
use Rattle.list_facts.proofs.Tests.{and_false, le_false, le_true, lt_false, lt_true, clash_with}
use Rattle.list_facts.specs.EitherOr.{exactly_one}
use Rattle.region_form.specs.declared.flip.Flip.{Flip}
use Rattle.region_form.specs.Flips.{changes, squares, AreSorted}
use Rattle.region_form.proofs.FlipLines.{none_below_line}

quiet_left : (f : Flip) (x : ℤ) → x <ℤ f.x0 → changes f x ≡ false
quiet_left f x h = ap (λ q. q && int_lt x f.x1) (le_false f.x0 x h)

quiet_right : (f : Flip) (x : ℤ) → f.x1 ≤ℤ x → changes f x ≡ false
quiet_right f x h = ap (λ q. int_le f.x0 x && q) (lt_false x f.x1 h) ∙ and_false (int_le f.x0 x)

quiet : (p q r : Bool) → q ≡ false → r ≡ false → exactly_one (p && q) r ≡ false
quiet p q r e f = ap (λ v. exactly_one (p && v) r) e ∙ (ap (λ v. exactly_one v r) (and_false p) ∙ (ap (exactly_one false) f ∙ refl))

-- up to its end a flip has its line to itself
pub alone : (f : Flip) (fs : List Flip) (x y : ℤ) → AreSorted (f ∷ fs) → y ≡ f.y → x ≤ℤ f.x1 → squares fs x y ≡ false
alone f [] x y s e h = refl
alone f (g ∷ gs) x y s e h =
    elim s.1 [
      | inl l ↦ none_below_line (g ∷ gs) x y s.2 (omega (arith, ints))
      | inr q ↦
          let k : f.y ≡ g.y = q.0 in
          let b : f.x1 <ℤ g.x0 = q.1 in
          let w : g.x0 <ℤ g.x1 = s.2.0 in
          quiet (int_le g.y y) (changes g x) (squares gs x y) (quiet_left g x (omega (arith, ints))) (alone g gs x y s.2 (e ∙ k) (omega (arith, ints)))
    ]

pub first_has : (f : Flip) (fs : List Flip) (x y : ℤ) → AreSorted (f ∷ fs) → y ≡ f.y → f.x0 ≤ℤ x → x <ℤ f.x1 → squares (f ∷ fs) x y ≡ true
first_has f fs x y s e p q =
    ap (exactly_one (int_le f.y y && changes f x)) (alone f fs x y s e (omega (arith, ints)))
    ∙ (one_right_false (int_le f.y y && changes f x)
    ∙ (ap (λ v. v && changes f x) (le_true f.y y (omega (arith, ints)))
    ∙ (ap (λ v. v && int_lt x f.x1) (le_true f.x0 x p) ∙ lt_true x f.x1 q)))

pub left_of_first : (f : Flip) (fs : List Flip) (x y : ℤ) → AreSorted (f ∷ fs) → y ≡ f.y → x <ℤ f.x0 → squares (f ∷ fs) x y ≡ false
left_of_first f fs x y s e h =
    let k : f.x0 <ℤ f.x1 = s.0 in
    quiet (int_le f.y y) (changes f x) (squares fs x y) (quiet_left f x h) (alone f fs x y s e (omega (arith, ints)))

pub end_of_first : (f : Flip) (fs : List Flip) (x y : ℤ) → AreSorted (f ∷ fs) → y ≡ f.y → x ≡ f.x1 → squares (f ∷ fs) x y ≡ false
end_of_first f fs x y s e h =
    quiet (int_le f.y y) (changes f x) (squares fs x y) (quiet_right f x (omega (arith, ints))) (alone f fs x y s e (omega (arith, ints)))

-- the first flip of the one list lies no lower than that of the other, begins no lower if they lie on one line, and
-- then ends no lower if they begin together
lies_low : (f g : Flip) (fs gs : List Flip) → AreSorted (f ∷ fs) → AreSorted (g ∷ gs) → ((x y : ℤ) → squares (f ∷ fs) x y ≡ squares (g ∷ gs) x y) → g.y ≤ℤ f.y
lies_low f g fs gs r s h =
    let k : f.x0 <ℤ f.x1 = r.0 in
    by_lt_z f.y g.y
    (λ l. clash_with _ _ (h f.x0 f.y) (first_has f fs f.x0 f.y r refl (omega (arith, ints)) k) (none_below_line (g ∷ gs) f.x0 f.y s l))
    (λ l. l)

begins_low : (f g : Flip) (fs gs : List Flip) → AreSorted (f ∷ fs) → AreSorted (g ∷ gs) → f.y ≡ g.y → ((x y : ℤ) → squares (f ∷ fs) x y ≡ squares (g ∷ gs) x y) → g.x0 ≤ℤ f.x0
begins_low f g fs gs r s e h =
    let k : f.x0 <ℤ f.x1 = r.0 in
    by_lt_z f.x0 g.x0
    (λ l. clash_with _ _ (h f.x0 f.y) (first_has f fs f.x0 f.y r refl (omega (arith, ints)) k) (left_of_first g gs f.x0 f.y s e l))
    (λ l. l)

ends_low : (f g : Flip) (fs gs : List Flip) → AreSorted (f ∷ fs) → AreSorted (g ∷ gs) → f.y ≡ g.y → f.x0 ≡ g.x0 → ((x y : ℤ) → squares (f ∷ fs) x y ≡ squares (g ∷ gs) x y) → g.x1 ≤ℤ f.x1
ends_low f g fs gs r s e i h =
    let k : f.x0 <ℤ f.x1 = r.0 in
    by_lt_z f.x1 g.x1
    (λ l. clash_with _ _ (sym (h f.x1 f.y)) (first_has g gs f.x1 f.y s e (omega (arith, ints)) l) (end_of_first f fs f.x1 f.y r refl refl))
    (λ l. l)

same_flip : (f g : Flip) → f.y ≡ g.y → f.x0 ≡ g.x0 → f.x1 ≡ g.x1 → f ≡ g
same_flip f g p q r i = record { y = p i; x0 = q i; x1 = r i }

rest_same : (f g : Flip) (fs gs : List Flip) → f ≡ g → ((x y : ℤ) → squares (f ∷ fs) x y ≡ squares (g ∷ gs) x y) → (x y : ℤ) → squares fs x y ≡ squares gs x y
rest_same f g fs gs e h x y =
    one_cancel (int_le f.y y && changes f x) (squares fs x y) (squares gs x y)
    (h x y ∙ ap (λ (k : Flip). exactly_one (int_le k.y y && changes k x) (squares gs x y)) (sym e))

pub same_flips : (a b : List Flip) → AreSorted a → AreSorted b → ((x y : ℤ) → squares a x y ≡ squares b x y) → a ≡ b
same_flips [] [] r s h = refl
same_flips [] (g ∷ gs) r s h =
    let k : g.x0 <ℤ g.x1 = s.0 in
    absurd (true≢false (sym (first_has g gs g.x0 g.y s refl (omega (arith, ints)) k) ∙ sym (h g.x0 g.y)))
same_flips (f ∷ fs) [] r s h =
    let k : f.x0 <ℤ f.x1 = r.0 in
    absurd (true≢false (sym (first_has f fs f.x0 f.y r refl (omega (arith, ints)) k) ∙ h f.x0 f.y))
same_flips (f ∷ fs) (g ∷ gs) r s h =
    let l1 = lies_low f g fs gs r s h in
    let l2 = lies_low g f gs fs s r (λ x y. sym (h x y)) in
    let y : f.y ≡ g.y = omega (arith, ints) in
    let l3 = begins_low f g fs gs r s y h in
    let l4 = begins_low g f gs fs s r (sym y) (λ x y. sym (h x y)) in
    let x0 : f.x0 ≡ g.x0 = omega (arith, ints) in
    let l5 = ends_low f g fs gs r s y x0 h in
    let l6 = ends_low g f gs fs s r (sym y) (sym x0) (λ x y. sym (h x y)) in
    let x1 : f.x1 ≡ g.x1 = omega (arith, ints) in
    let e : f ≡ g = same_flip f g y x0 x1 in
    let t : fs ≡ gs = same_flips fs gs r.2 s.2 (rest_same f g fs gs e h) in
    cc
