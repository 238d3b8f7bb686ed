-- Rectangles in another order cover the same squares and don't overlap either. Sorted, they ascend strictly.
use Rattle.std.proofs.Common.{◌≡◌, inl, inr, true, false, ◌&&◌, ◌||◌, ℕ, ◌≤◌, ℤ, List, [], ◌∷◌, refl, sym, subst, ap, ◌∙◌, arith}
use Rattle.std.proofs.lemmas.Bool.{and_from}
use Rattle.std.proofs.lemmas.Int.{ints}
use Rattle.std.proofs.lemmas.List.Sorted.{IsPermutation-sym, sum_by-IsPermutation}
use Rattle.std.proofs.lemmas.List.Sums.{sum_by-cons}
use Rattle.std.specs.Cmp.{Equal-is, IsTotalOrder, both_ways, int_cmp_total, int_ranked, on_total, then_total}
use Rattle.std.specs.List.{AllByRecursion, IsDistinct, sum_by}
use Rattle.std.specs.List.Sorted.{IsPermutation, IsSorted, IsStrictlySortedBy}
use Rattle.std.specs.Ordering.{eq_by_cmp, int_cmp}
use Rattle.std.specs.declared.cmp.Ordering.TheVariants.{Equal}
use mathlib.Core.Bool.{true≢false}
use Rattle.std.proofs.Math.Bool.{or-true}
use Rattle.list_facts.proofs.InOrder.{ordered_from_sorted}
use Rattle.list_facts.proofs.Members.{Has, all_from_has, has_holds, has_permuted}
use Rattle.list_facts.proofs.Tests.{between_true, by_test, clash}
use Rattle.drc_geom.specs.declared.rect.Rect.{Rect}
use Rattle.drc_geom.specs.RunOrder.{first_tied, rest_tied}
use Rattle.drc_geom.specs.Squares.{IsRect, covered, squares_of}
use Rattle.region_turn.proofs.Different.{counted_once, one_if}
use Rattle.region_rects.specs.Canonical.{rect_order}
use Rattle.region_rects.specs.Disjoint.{AreDisjoint}

-- ---- squares by members

-- a rectangle of the list has the square
pub record IsCoveredBy (rs : List Rect) (x y : ℤ) : Type 0 where
  pub rect : Rect
  pub listed : Has rs rect
  pub has : squares_of rect x y ≡ true

pub covered_by : (rs : List Rect) (x y : ℤ) → covered rs x y ≡ true → IsCoveredBy rs x y
covered_by [] x y e = absurd (true≢false (sym e))
covered_by (r ∷ rs) x y e =
    by_test (squares_of r x y)
    (λ t. record { rect = r; listed = inl refl; has = t })
    (λ f.
    let rest = covered_by rs x y (sym (ap (λ b. b || covered rs x y) f) ∙ e) in
    record { rect = rest.rect; listed = inr rest.listed; has = rest.has })

pub covers_listed : (rs : List Rect) (r : Rect) (x y : ℤ) → Has rs r → squares_of r x y ≡ true → covered rs x y ≡ true
covers_listed [] r x y h e = absurd h
covers_listed (q ∷ rs) r x y h e =
    elim h [
      | inl s ↦ ap (λ b. b || covered rs x y) (ap (λ p. squares_of p x y) s ∙ e)
      | inr k ↦ ap (λ b. squares_of q x y || b) (covers_listed rs r x y k e) ∙ or-true (squares_of q x y)
    ]

one_way : (xs ys : List Rect) (x y : ℤ) → IsPermutation xs ys → covered xs x y ≡ true → covered ys x y ≡ true
one_way xs ys x y p e =
    let c = covered_by xs x y e in
    covers_listed ys c.rect x y (has_permuted xs ys c.rect p c.listed) c.has

pub covered_permuted : (xs ys : List Rect) (x y : ℤ) → IsPermutation xs ys → covered ys x y ≡ covered xs x y
covered_permuted xs ys x y p =
    both_ways (covered ys x y) (covered xs x y) (one_way ys xs x y (IsPermutation-sym xs ys p)) (one_way xs ys x y p)

-- ---- no two rectangles have one square: at most one has it

abbrev count_of : (x y : ℤ) → List Rect → ℕ
count_of x y = sum_by (λ r. one_if (squares_of r x y))

none_counted : (rs : List Rect) (x y : ℤ) → covered rs x y ≡ false → count_of x y rs ≡ 0
none_counted [] x y e = refl
none_counted (r ∷ rs) x y e =
    by_test (squares_of r x y)
    (λ t. clash (covered (r ∷ rs) x y) (ap (λ b. b || covered rs x y) t) e)
    (λ f.
    let a : one_if (squares_of r x y) ≡ 0 = ap one_if f in
    let b = none_counted rs x y (sym (ap (λ b. b || covered rs x y) f) ∙ e) in
    let c = sum_by-cons (λ r. one_if (squares_of r x y)) r rs in
    omega arith)

some_counted : (rs : List Rect) (x y : ℤ) → covered rs x y ≡ true → 1 ≤ count_of x y rs
some_counted [] x y e = absurd (true≢false (sym e))
some_counted (r ∷ rs) x y e =
    let c = sum_by-cons (λ r. one_if (squares_of r x y)) r rs in
    by_test (squares_of r x y)
    (λ t. let a : one_if (squares_of r x y) ≡ 1 = ap one_if t in omega arith)
    (λ f. let b = some_counted rs x y (sym (ap (λ b. b || covered rs x y) f) ∙ e) in omega arith)

at_most_one : (rs : List Rect) (x y : ℤ) → AreDisjoint rs → count_of x y rs ≤ 1
at_most_one [] x y d = omega arith
at_most_one (r ∷ rs) x y d =
    let c = sum_by-cons (λ r. one_if (squares_of r x y)) r rs in
    by_test (squares_of r x y)
    (λ t.
    let a : one_if (squares_of r x y) ≡ 1 = ap one_if t in
    let b = none_counted rs x y (sym (ap (λ b. b && covered rs x y) t) ∙ d.0 x y) in
    omega arith)
    (λ f.
    let a : one_if (squares_of r x y) ≡ 0 = ap one_if f in
    let b = at_most_one rs x y d.1 in
    omega arith)

disjoint_by_count : (rs : List Rect) → ((x y : ℤ) → count_of x y rs ≤ 1) → AreDisjoint rs
disjoint_by_count [] h = tt
disjoint_by_count (r ∷ rs) h = (
  λ x y.
      by_test (squares_of r x y)
      (λ t. by_test (covered rs x y)
      (λ u.
      let a : one_if (squares_of r x y) ≡ 1 = ap one_if t in
      let b = some_counted rs x y u in
      let c = sum_by-cons (λ r. one_if (squares_of r x y)) r rs in
      let k = h x y in
      absurd (omega arith))
      (λ f. ap (λ b. squares_of r x y && b) f ∙ ap (λ b. b && false) t))
      (λ f. ap (λ b. b && covered rs x y) f),
  disjoint_by_count rs (λ x y.
      let a = counted_once (squares_of r x y) in
      let c = sum_by-cons (λ r. one_if (squares_of r x y)) r rs in
      let k = h x y in
      omega arith),
)

pub disjoint_permuted : (xs ys : List Rect) → IsPermutation xs ys → AreDisjoint xs → AreDisjoint ys
disjoint_permuted xs ys p d =
    disjoint_by_count ys (λ x y. subst (λ n. n ≤ 1) (sym (sum_by-IsPermutation (λ r. one_if (squares_of r x y)) xs ys p)) (at_most_one xs x y d))

-- ---- in order

pub rect_order_total : IsTotalOrder rect_order
rect_order_total = then_total (on_total (λ r. r.y0) int_cmp_total) (on_total (λ r. r.x0) int_cmp_total)

has_corner : (r : Rect) (x y : ℤ) → IsRect r → r.x0 ≡ x → r.y0 ≡ y → squares_of r x y ≡ true
has_corner r x y i p q =
    let w = i.wide in
    let h = i.high in
    and_from _ _ (between_true r.x0 r.x1 x (omega (arith, ints)) (omega (arith, ints))) (between_true r.y0 r.y1 y (omega (arith, ints)) (omega (arith, ints)))

-- two that begin at one place would have its square
untied : (r s : Rect) (rs : List Rect) → IsRect r → IsRect s → Has rs s → ((x y : ℤ) → (squares_of r x y && covered rs x y) ≡ false) → rect_order r s ≡ Equal → ⊥
untied r s rs i j h d e =
    let y : r.y0 ≡ s.y0 = int_ranked r.y0 s.y0 Equal (sym (first_tied (int_cmp r.y0 s.y0) (int_cmp r.x0 s.x0) e)) in
    let x : r.x0 ≡ s.x0 = int_ranked r.x0 s.x0 Equal (sym (rest_tied (int_cmp r.y0 s.y0) (int_cmp r.x0 s.x0) e)) in
    clash (squares_of r r.x0 r.y0 && covered rs r.x0 r.y0)
    (and_from _ _ (has_corner r r.x0 r.y0 i refl refl) (covers_listed rs s r.x0 r.y0 h (has_corner s r.x0 r.y0 j (sym x) (sym y))))
    (d r.x0 r.y0)

all_different : (rs : List Rect) → AllByRecursion IsRect rs → AreDisjoint rs → IsDistinct (eq_by_cmp rect_order) rs
unfolding IsDistinct
all_different [] a d = tt
all_different (r ∷ rs) a d = (
  all_from_has (λ s. eq_by_cmp rect_order r s ≡ false) rs (λ s h.
      by_test (eq_by_cmp rect_order r s)
      (λ t. absurd (untied r s rs a.0 (has_holds IsRect rs s a.1 h) h d.0 ((Equal-is (rect_order r s)).0 t)))
      (λ f. f)),
  all_different rs a.1 d.1,
)

pub strictly_sorted : (rs : List Rect) → AllByRecursion IsRect rs → AreDisjoint rs → IsSorted rect_order rs → IsStrictlySortedBy rect_order rs
strictly_sorted rs a d s = ordered_from_sorted rect_order rect_order_total rs s (all_different rs a d)
