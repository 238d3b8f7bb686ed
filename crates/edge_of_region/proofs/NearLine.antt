-- The squares next to the line of a flip: above the line those of the row that all flips up to it make, below it those of
-- the row that the flips before it make.
use Rattle.std.proofs.Common.{◌≡◌, ◌⊎◌, inl, inr, Bool, true, false, not, ◌&&◌, ℤ, pos, ◌-ℤ◌, ◌<ℤ◌, ◌≤ℤ◌, int_le, List, [], ◌∷◌, ◌++◌, refl, sym, ap, ◌∙◌, arith}
use Rattle.std.proofs.lemmas.Int.{ints, by_lt_z}
use Rattle.std.specs.List.{AllByRecursion}
use Rattle.list_facts.specs.EitherOr.{exactly_one}
use Rattle.list_facts.proofs.EitherOr.{one_comm, one_right_false}
use Rattle.list_facts.proofs.Tests.{and_false, and_known, between_before, between_past, between_true, le_false, le_true}
use Rattle.region_form.specs.declared.flip.Flip.{Flip}
use Rattle.region_form.specs.Flips.{StandsBefore, changes, is_odd, squares}
use Rattle.region_form.proofs.Parity.{is_odd_append, squares_append}

abbrev pub LieUpTo : ℤ → List Flip → Type 0
LieUpTo line = AllByRecursion (λ g. g.y ≤ℤ line)

-- where all flips count
pub all_count : (gs : List Flip) (x y : ℤ) → LieUpTo y gs → squares gs x y ≡ is_odd gs x
all_count [] x y a = refl
all_count (g ∷ gs) x y a =
    ap (λ b. exactly_one b (squares gs x y)) (and_known (int_le g.y y) (changes g x) (le_true g.y y a.0))
    ∙ ap (exactly_one (changes g x)) (all_count gs x y a.1)

module _ (before : List Flip) (f : Flip) (behind : List Flip) (lower : AllByRecursion (λ g. StandsBefore g f) before) (higher : AllByRecursion (StandsBefore f) behind) where
  none_behind : (gs : List Flip) (x y : ℤ) → AllByRecursion (StandsBefore f) gs → y <ℤ f.y → squares gs x y ≡ false
  none_behind [] x y a l = refl
  none_behind (g ∷ gs) x y a l =
      let k : f.y ≤ℤ g.y = elim a.0 [ inl m ↦ omega (arith, ints) | inr e ↦ let q : f.y ≡ g.y = e.0 in omega (arith, ints) ] in
      ap (λ b. exactly_one (b && changes g x) (squares gs x y)) (le_false g.y y (omega (arith, ints))) ∙ none_behind gs x y a.1 l

  none_on_line : (gs : List Flip) (x : ℤ) → AllByRecursion (StandsBefore f) gs → x ≤ℤ f.x1 → squares gs x f.y ≡ false
  none_on_line [] x a l = refl
  none_on_line (g ∷ gs) x a l =
      let off : (int_le g.y f.y && changes g x) ≡ false =
      elim a.0 [
        | inl m ↦ ap (λ b. b && changes g x) (le_false g.y f.y m)
        | inr e ↦ let q : f.x1 <ℤ g.x0 = e.1 in ap (λ b. int_le g.y f.y && b) (between_before g.x0 g.x1 x (omega (arith, ints))) ∙ and_false (int_le g.y f.y)
      ] in
      ap (λ b. exactly_one b (squares gs x f.y)) off ∙ none_on_line gs x a.1 l

  -- right below the line all flips before it count that change a column next to the flip
  before_count : (gs : List Flip) (x : ℤ) → AllByRecursion (λ g. StandsBefore g f) gs → (f.x0 -ℤ pos 1) ≤ℤ x → squares gs x (f.y -ℤ pos 1) ≡ is_odd gs x
  before_count [] x a l = refl
  before_count (g ∷ gs) x a l =
      let same : (int_le g.y (f.y -ℤ pos 1) && changes g x) ≡ changes g x =
      elim a.0 [
        | inl m ↦ let k : g.y <ℤ f.y = m in and_known (int_le g.y (f.y -ℤ pos 1)) (changes g x) (le_true g.y (f.y -ℤ pos 1) (omega (arith, ints)))
        | inr e ↦
            let q : g.x1 <ℤ f.x0 = e.1 in
            let none = between_past g.x0 g.x1 x (omega (arith, ints)) in
            ap (λ b. int_le g.y (f.y -ℤ pos 1) && b) none ∙ (and_false (int_le g.y (f.y -ℤ pos 1)) ∙ sym none)
      ] in
      ap (λ b. exactly_one b (squares gs x (f.y -ℤ pos 1))) same ∙ ap (exactly_one (changes g x)) (before_count gs x a.1 l)

  pub before_up_to : (gs : List Flip) → AllByRecursion (λ g. StandsBefore g f) gs → LieUpTo f.y gs
  before_up_to [] a = tt
  before_up_to (g ∷ gs) a = (elim a.0 [ inl l ↦ omega (arith, ints) | inr e ↦ let q : g.y ≡ f.y = e.0 in omega (arith, ints) ], before_up_to gs a.1)

  parts : (x y : ℤ) → squares (before ++ f ∷ behind) x y ≡ exactly_one (squares before x y) (exactly_one (int_le f.y y && changes f x) (squares behind x y))
  parts x y = squares_append before (f ∷ behind) x y

  pub odd_with : (x : ℤ) → is_odd (before ++ f ∷ []) x ≡ exactly_one (is_odd before x) (changes f x)
  odd_with x = is_odd_append before (f ∷ []) x ∙ ap (exactly_one (is_odd before x)) (one_right_false (changes f x))

  pub above_line : (x : ℤ) → x ≤ℤ f.x1 → squares (before ++ f ∷ behind) x f.y ≡ is_odd (before ++ f ∷ []) x
  above_line x l =
      parts x f.y
      ∙ (ap (λ b. exactly_one (squares before x f.y) (exactly_one (b && changes f x) (squares behind x f.y))) (le_true f.y f.y (omega (arith, ints)))
      ∙ (ap (exactly_one (squares before x f.y)) (ap (exactly_one (changes f x)) (none_on_line behind x higher l) ∙ one_right_false (changes f x))
      ∙ (ap (λ b. exactly_one b (changes f x)) (all_count before x f.y (before_up_to before lower)) ∙ sym (odd_with x))))

  -- lower down the flip counts no more
  lower_down : (x y : ℤ) → y <ℤ f.y → squares (before ++ f ∷ behind) x y ≡ squares before x y
  lower_down x y l =
      parts x y
      ∙ (ap (λ b. exactly_one (squares before x y) (exactly_one (b && changes f x) (squares behind x y))) (le_false f.y y l)
      ∙ (ap (exactly_one (squares before x y)) (none_behind behind x y higher l) ∙ one_right_false (squares before x y)))

  pub below_line : (x : ℤ) → (f.x0 -ℤ pos 1) ≤ℤ x → squares (before ++ f ∷ behind) x (f.y -ℤ pos 1) ≡ is_odd before x
  below_line x l = lower_down x (f.y -ℤ pos 1) (omega (arith, ints)) ∙ before_count before x lower l

  pub in_between : (x y : ℤ) → LieUpTo y before → y <ℤ f.y → squares (before ++ f ∷ behind) x y ≡ is_odd before x
  in_between x y a l = lower_down x y l ∙ all_count before x y a

  one_true : (p q : Bool) → q ≡ true → exactly_one p q ≡ not p
  one_true true q e = ap not e
  one_true false q e = e

  pub turned : (x : ℤ) → f.x0 ≤ℤ x → x <ℤ f.x1 → is_odd (before ++ f ∷ []) x ≡ not (is_odd before x)
  turned x p q = odd_with x ∙ one_true (is_odd before x) (changes f x) (between_true f.x0 f.x1 x p q)

  one_false : (p q : Bool) → q ≡ false → exactly_one p q ≡ p
  one_false p q e = ap (exactly_one p) e ∙ one_right_false p

  pub kept_left : (x : ℤ) → x <ℤ f.x0 → is_odd (before ++ f ∷ []) x ≡ is_odd before x
  kept_left x l = odd_with x ∙ one_false (is_odd before x) (changes f x) (between_before f.x0 f.x1 x l)

  pub kept_right : (x : ℤ) → f.x1 ≤ℤ x → is_odd (before ++ f ∷ []) x ≡ is_odd before x
  kept_right x l = odd_with x ∙ one_false (is_odd before x) (changes f x) (between_past f.x0 f.x1 x l)
