-- Corners in order: the flips between them have the squares of the flips whose ends they are, turned over.
use Rattle.std.proofs.Common.{◌≡◌, ◌⊎◌, inl, inr, Bool, true, false, not, ◌&&◌, cond, ℕ, zero, suc, ◌+◌, ◌<◌, ◌≤◌, ℤ, ◌<ℤ◌, ◌≤ℤ◌, int_le, int_lt, List, [], ◌∷◌, ◌++◌, length, take, drop, get_or, refl, sym, ap, ◌∙◌, arith}
use Rattle.std.proofs.lemmas.Int.{ints, by_lt_z}
use Rattle.std.proofs.lemmas.List.{take_more}
use Rattle.std.proofs.lemmas.Cmp.{int_cmp_total, on_total, then_total}
use Rattle.std.proofs.lemmas.List.Elements.{recursion_from_All}
use Rattle.std.proofs.lemmas.List.Sorted.{ranks_by, sorted_far, sum_by-IsPermutation}
use Rattle.std.proofs.lemmas.List.Sums.{sum_by-cons}
use Rattle.std.specs.List.{AllPairs, AllByRecursion, sum_by}
use Rattle.std.specs.List.Sorted.{IsPermutation, IsSortedByKey}
use Rattle.std.specs.Ordering.{int_cmp, is_lt, ordering_then}
use Rattle.list_facts.specs.EitherOr.{exactly_one}
use Rattle.list_facts.proofs.EitherOr.{one_assoc, one_twice}
use Rattle.list_facts.proofs.Members.{all_weaker}
use Rattle.list_facts.proofs.Tests.{clash, between_ends, le_false, le_from_false, le_true, lt_from_true}
use Rattle.region_form.specs.declared.flip.Flip.{Flip}
use Rattle.region_form.specs.Flips.{AreSorted, changes, is_odd, squares}
use Rattle.region_turn.specs.declared.corner.Corner.{Corner}
use Rattle.region_turn.specs.Working.Corners.{Ascend, Follows, corners_of, flips_between, odd_corners, odd_up_to}

-- ---- the loop that goes from two corners to the next two

first_alone : (b : Bool) (f : Flip) (fs : List Flip) → cond b (f ∷ fs) fs ≡ cond b (f ∷ []) [] ++ fs
first_alone true f fs = refl
first_alone false f fs = refl

pub two_more : (cs : List Corner) (c d : Corner) → 2 ≤ length cs → flips_between cs ≡ flips_between (get_or cs 0 c ∷ get_or cs 1 d ∷ []) ++ flips_between (drop 2 cs)
two_more [] c d l = absurd (omega arith)
two_more (a ∷ []) c d l = absurd (omega arith)
two_more (a ∷ b ∷ cs) c d l = first_alone (int_lt a.row b.row) (record { y = a.line; x0 = a.row; x1 = b.row }) (flips_between cs)

pub too_few : (cs : List Corner) → length cs < 2 → flips_between cs ≡ []
too_few [] l = refl
too_few (a ∷ []) l = refl
too_few (a ∷ b ∷ cs) l = absurd (omega arith)

-- ---- corners of flips

-- two corners count in one row
one_row : (p q r s : Bool) → exactly_one (p && r) (exactly_one (q && r) s) ≡ exactly_one (r && exactly_one p q) s
one_row true true true true = refl
one_row true true true false = refl
one_row true true false s = refl
one_row true false true s = refl
one_row true false false s = refl
one_row false true true s = refl
one_row false true false s = refl
one_row false false true s = refl
one_row false false false s = refl

pub corners_have : (fs : List Flip) (x y : ℤ) → AreSorted fs → odd_corners (corners_of fs) x y ≡ squares fs x y
corners_have [] x y s = refl
corners_have (f ∷ fs) x y s =
    one_row (int_le f.x0 x) (int_le f.x1 x) (int_le f.y y) (odd_corners (corners_of fs) x y)
    ∙ (ap (λ b. exactly_one (int_le f.y y && b) (odd_corners (corners_of fs) x y)) (sym (between_ends f.x0 f.x1 x s.0))
    ∙ ap (exactly_one (int_le f.y y && changes f x)) (corners_have fs x y s.2))

pub corners_close : (fs : List Flip) (x : ℤ) → AreSorted fs → odd_up_to (corners_of fs) x ≡ is_odd fs x
corners_close [] x s = refl
corners_close (f ∷ fs) x s =
    one_assoc (int_le f.x0 x) (int_le f.x1 x) (odd_up_to (corners_of fs) x)
    ∙ (ap (λ b. exactly_one b (odd_up_to (corners_of fs) x)) (sym (between_ends f.x0 f.x1 x s.0))
    ∙ ap (exactly_one (changes f x)) (corners_close fs x s.2))

corners_append : (fs gs : List Flip) → corners_of (fs ++ gs) ≡ corners_of fs ++ corners_of gs
corners_append [] gs = refl
corners_append (f ∷ fs) gs = ap (λ cs. record { line = f.x0; row = f.y } ∷ record { line = f.x1; row = f.y } ∷ cs) (corners_append fs gs)

-- the corners of one more flip
pub corners_more : (fs : List Flip) (i : ℕ) (d : Flip) (old new : List Corner) → i < length fs → old ≡ corners_of (take i fs) → new ≡ old ++ corners_of (get_or fs i d ∷ []) → new ≡ corners_of (take (i + 1) fs)
corners_more fs i d old new l e f =
    f ∙ (ap (λ cs. cs ++ corners_of (get_or fs i d ∷ [])) e
    ∙ (sym (corners_append (take i fs) (get_or fs i d ∷ [])) ∙ ap corners_of (sym (take_more fs i d l))))

-- ---- moved corners

abbrev is_odd_number : ℕ → Bool
is_odd_number zero = false
is_odd_number (suc n) = not (is_odd_number n)

one_counted : (b : Bool) (n : ℕ) → exactly_one b (is_odd_number n) ≡ is_odd_number (cond b 1 0 + n)
one_counted true n = let e : 1 + n ≡ suc n = omega arith in sym (ap is_odd_number e)
one_counted false n = let e : 0 + n ≡ n = omega arith in sym (ap is_odd_number e)

corners_sum : (cs : List Corner) (x y : ℤ) → odd_corners cs x y ≡ is_odd_number (sum_by (λ c. cond (int_le c.line x && int_le c.row y) 1 0) cs)
corners_sum [] x y = refl
corners_sum (c ∷ cs) x y =
    ap (exactly_one (int_le c.line x && int_le c.row y)) (corners_sum cs x y)
    ∙ (one_counted (int_le c.line x && int_le c.row y) (sum_by (λ c. cond (int_le c.line x && int_le c.row y) 1 0) cs)
    ∙ ap is_odd_number (sym (sum_by-cons (λ c. cond (int_le c.line x && int_le c.row y) 1 0) c cs)))

up_to_sum : (cs : List Corner) (x : ℤ) → odd_up_to cs x ≡ is_odd_number (sum_by (λ c. cond (int_le c.line x) 1 0) cs)
up_to_sum [] x = refl
up_to_sum (c ∷ cs) x =
    ap (exactly_one (int_le c.line x)) (up_to_sum cs x)
    ∙ (one_counted (int_le c.line x) (sum_by (λ c. cond (int_le c.line x) 1 0) cs)
    ∙ ap is_odd_number (sym (sum_by-cons (λ c. cond (int_le c.line x) 1 0) c cs)))

pub corners_moved : (cs ds : List Corner) (x y : ℤ) → IsPermutation cs ds → odd_corners ds x y ≡ odd_corners cs x y
corners_moved cs ds x y p =
    corners_sum ds x y
    ∙ (ap is_odd_number (sum_by-IsPermutation (λ c. cond (int_le c.line x && int_le c.row y) 1 0) cs ds p)
    ∙ sym (corners_sum cs x y))

pub up_to_moved : (cs ds : List Corner) (x : ℤ) → IsPermutation cs ds → odd_up_to ds x ≡ odd_up_to cs x
up_to_moved cs ds x p =
    up_to_sum ds x
    ∙ (ap is_odd_number (sum_by-IsPermutation (λ c. cond (int_le c.line x) 1 0) cs ds p) ∙ sym (up_to_sum cs x))

-- ---- a sort puts corners in order

ascend_from_pairs : (cs : List Corner) → AllPairs Follows cs → Ascend cs
ascend_from_pairs [] h = tt
ascend_from_pairs (c ∷ cs) h = (
  recursion_from_All (Follows c) cs (λ k d lt. h 0 (suc k) d (omega arith) (omega arith)),
  ascend_from_pairs cs (λ i j d lt less. h (suc i) (suc j) d (omega arith) (omega arith)),
)

follows_cases : (l0 r0 l1 r1 : ℤ) → is_lt (ordering_then (int_cmp l1 l0) (int_cmp r1 r0)) ≡ false → (l0 <ℤ l1) ⊎ ((l0 ≡ l1) × (r0 ≤ℤ r1))
follows_cases l0 r0 l1 r1 h =
    by_lt_z l1 l0 (λ l. absurd (grind (arith, ints)))
    (λ l. by_lt_z l0 l1 (λ m. inl m)
    (λ m. inr (omega (arith, ints), by_lt_z r1 r0 (λ k. absurd (grind (arith, ints))) (λ k. k))))

pub ascend_from_sort : (cs : List Corner) → IsSortedByKey {K = ℤ × ℤ} (λ c. (c.line, c.row)) (λ a b. ordering_then (int_cmp a.0 b.0) (int_cmp a.1 b.1)) cs → Ascend cs
ascend_from_sort cs up =
    ascend_from_pairs cs (λ i j d lt less.
    let a = get_or cs i d in
    let b = get_or cs j d in
    follows_cases a.line a.row b.line b.row
    (sorted_far (λ (a : Corner) (b : Corner). is_lt (ordering_then (int_cmp a.line b.line) (int_cmp a.row b.row)))
    (ranks_by (then_total (on_total (λ (t : ℤ × ℤ). t.0) int_cmp_total) (on_total (λ (t : ℤ × ℤ). t.1) int_cmp_total)) (λ (c : Corner). (c.line, c.row)))
    cs up i j d (omega arith) less))

-- ---- what lies between corners in order, of which each line has an even number

-- behind a line no corner counts
none_up_to : (cs : List Corner) (x : ℤ) → AllByRecursion (λ c. x <ℤ c.line) cs → odd_up_to cs x ≡ false
none_up_to [] x a = refl
none_up_to (c ∷ cs) x a = ap (λ b. exactly_one b (odd_up_to cs x)) (le_false c.line x a.0) ∙ none_up_to cs x a.1

from_follows : (c d : Corner) → Follows c d → c.line ≤ℤ d.line
from_follows c d f = elim f [ inl l ↦ omega (arith, ints) | inr e ↦ let q : c.line ≡ d.line = e.0 in omega (arith, ints) ]

-- a first corner whose line has no other would be odd
not_alone : (c : Corner) (cs : List Corner) → AllByRecursion (λ d. c.line <ℤ d.line) cs → ((x : ℤ) → odd_up_to (c ∷ cs) x ≡ false) → ⊥
not_alone c cs a even =
    clash (odd_up_to (c ∷ cs) c.line)
    (ap (λ b. exactly_one b (odd_up_to cs c.line)) (le_true c.line c.line (omega (arith, ints))) ∙ ap not (none_up_to cs c.line a))
    (even c.line)

-- the first two corners lie on one line
pub first_line_is : (c d : Corner) (cs : List Corner) → Ascend (c ∷ d ∷ cs) → ((x : ℤ) → odd_up_to (c ∷ d ∷ cs) x ≡ false) → (c.line ≡ d.line) × (c.row ≤ℤ d.row)
first_line_is c d cs a even =
    elim a.0.0 [
      | inl l ↦ absurd (not_alone c (d ∷ cs) (l, all_weaker (Follows d) (λ e. c.line <ℤ e.line) (λ e f. let k = from_follows d e f in let m : c.line <ℤ d.line = l in omega (arith, ints)) cs a.1.0) even)
      | inr e ↦ e
    ]

even_rest : (p q : Bool) → exactly_one p (exactly_one p q) ≡ false → q ≡ false
even_rest p q e = sym (one_twice p q) ∙ e

-- the corners behind the first two come in even numbers too
pub even_behind : (c d : Corner) (cs : List Corner) → c.line ≡ d.line → ((x : ℤ) → odd_up_to (c ∷ d ∷ cs) x ≡ false) → (x : ℤ) → odd_up_to cs x ≡ false
even_behind c d cs e even x =
    even_rest (int_le c.line x) (odd_up_to cs x) (ap (λ l. exactly_one (int_le c.line x) (exactly_one (int_le l x) (odd_up_to cs x))) e ∙ even x)

squares_kept : (b : Bool) (f : Flip) (fs : List Flip) (x y : ℤ) (p : Bool) → (b ≡ true → (int_le f.y y && changes f x) ≡ p) → (b ≡ false → p ≡ false) → squares (cond b (f ∷ fs) fs) x y ≡ exactly_one p (squares fs x y)
squares_kept true f fs x y p g h = ap (λ q. exactly_one q (squares fs x y)) (g refl)
squares_kept false f fs x y p g h = sym (ap (λ q. exactly_one q (squares fs x y)) (h refl))

-- two corners count on one line
one_line : (p q r s : Bool) → exactly_one (r && exactly_one p q) s ≡ exactly_one (r && p) (exactly_one (r && q) s)
one_line true true true true = refl
one_line true true true false = refl
one_line true true false s = refl
one_line true false true s = refl
one_line true false false s = refl
one_line false true true s = refl
one_line false true false s = refl
one_line false false true s = refl
one_line false false false s = refl

nothing_between : (r p q : Bool) → p ≡ q → (r && exactly_one p q) ≡ false
nothing_between true true q e = ap not (sym e)
nothing_between true false q e = sym e
nothing_between false p q e = refl

pub between_have : (cs : List Corner) (x y : ℤ) → Ascend cs → ((x : ℤ) → odd_up_to cs x ≡ false) → squares (flips_between cs) y x ≡ odd_corners cs x y
between_have [] x y a even = refl
between_have (c ∷ []) x y a even = absurd (not_alone c [] tt even)
between_have (c ∷ d ∷ cs) x y a even =
    let one = first_line_is c d cs a even in
    let low = one.1 in
    squares_kept (int_lt c.row d.row) (record { y = c.line; x0 = c.row; x1 = d.row }) (flips_between cs) y x (int_le c.line x && exactly_one (int_le c.row y) (int_le d.row y))
    (λ e. ap (λ b. int_le c.line x && b) (between_ends c.row d.row y (lt_from_true c.row d.row e)))
    (λ e. let k = le_from_false c.row d.row e in let q : c.row ≡ d.row = omega (arith, ints) in nothing_between (int_le c.line x) (int_le c.row y) (int_le d.row y) (ap (λ r. int_le r y) q))
    ∙ (ap (exactly_one (int_le c.line x && exactly_one (int_le c.row y) (int_le d.row y))) (between_have cs x y a.1.1 (even_behind c d cs one.0 even))
    ∙ (one_line (int_le c.row y) (int_le d.row y) (int_le c.line x) (odd_corners cs x y)
    ∙ ap (λ l. exactly_one (int_le c.line x && int_le c.row y) (exactly_one (int_le l x && int_le d.row y) (odd_corners cs x y))) one.0))
