-- The rectangles that cover a square are those that have begun in its column and not ended.
use Rattle.std.proofs.Common.{◌≡◌, inl, inr, Bool, true, false, not, ◌&&◌, ◌||◌, cond, eqb, ℕ, ◌+◌, ◌-◌, ◌^◌, ◌<◌, ◌≤◌, ℤ, ◌<ℤ◌, ◌≤ℤ◌, int_le, List, [], ◌∷◌, length, lit<, refl, sym, ap, ◌∙◌, arith}
use Rattle.std.proofs.lemmas.Bool.Decides.{eqb_tells}
use Rattle.std.proofs.lemmas.Int.{ints}
use mathlib.Core.Bool.{true≢false}
use Rattle.std.specs.List.{AllByRecursion}
use Rattle.list_facts.specs.Between.{between}
use Rattle.list_facts.proofs.Tests.{le_from_true, le_true, not_le}
use Rattle.drc_geom.specs.declared.rect.Rect.{Rect}
use Rattle.drc_geom.specs.Squares.{IsRect, covered, squares_of}
use Rattle.region_sweep.specs.Counts.{AreWide, times, times_up_to}
use Rattle.region_sweep.proofs.Remainders.{difference_is, few_more}
use Rattle.region_merge.specs.Working.Overlaps.{open_count}
use Rattle.region_merge.specs.Working.Sides.{lower_sides, upper_sides}

pub lower_wide : (rs : List Rect) → AllByRecursion IsRect rs → AreWide (lower_sides rs)
lower_wide [] a = tt
lower_wide (r ∷ rs) a = (a.0.wide, lower_wide rs a.1)

pub upper_wide : (rs : List Rect) → AllByRecursion IsRect rs → AreWide (upper_sides rs)
upper_wide [] a = tt
upper_wide (r ∷ rs) a = (a.0.wide, upper_wide rs a.1)

-- ---- how many rectangles cover a square

abbrev cover_count : List Rect → ℤ → ℤ → ℕ
cover_count [] x y = 0
cover_count (r ∷ rs) x y = cond (squares_of r x y) (cover_count rs x y + 1) (cover_count rs x y)

sides_step : (p q c : Bool) (n m k : ℕ) → (q ≡ true → p ≡ true) → n ≡ m + k → cond (p && c) (n + 1) n ≡ cond (q && c) (m + 1) m + cond (c && (p && not q)) (k + 1) k
sides_step true true true n m k h e = omega arith
sides_step true true false n m k h e = e
sides_step true false true n m k h e = omega arith
sides_step true false false n m k h e = e
sides_step false true c n m k h e = absurd (true≢false (sym (h refl)))
sides_step false false true n m k h e = e
sides_step false false false n m k h e = e

pub begun_and_ended : (rs : List Rect) (x y : ℤ) → AllByRecursion IsRect rs → times_up_to (lower_sides rs) x y ≡ times_up_to (upper_sides rs) x y + cover_count rs x y
begun_and_ended [] x y a = refl
begun_and_ended (r ∷ rs) x y a =
    let high : r.y0 <ℤ r.y1 = a.0.high in
    sides_step (int_le r.y0 y) (int_le r.y1 y) (between r.x0 r.x1 x) (times_up_to (lower_sides rs) x y) (times_up_to (upper_sides rs) x y) (cover_count rs x y)
    (λ e. let k : r.y1 ≤ℤ y = le_from_true r.y1 y e in le_true r.y0 y (omega (arith, ints)))
    (begun_and_ended rs x y a.1)
    ∙ ap (λ b. cond (int_le r.y1 y && between r.x0 r.x1 x) (times_up_to (upper_sides rs) x y + 1) (times_up_to (upper_sides rs) x y) + cond (between r.x0 r.x1 x && (int_le r.y0 y && b)) (cover_count rs x y + 1) (cover_count rs x y)) (not_le r.y1 y)

pub all_end : (rs : List Rect) (x : ℤ) → times (lower_sides rs) x ≡ times (upper_sides rs) x
all_end [] x = refl
all_end (r ∷ rs) x = ap (λ n. cond (between r.x0 r.x1 x) (n + 1) n) (all_end rs x)

few : (rs : List Rect) (x y : ℤ) → cover_count rs x y ≤ length rs
few [] x y = omega arith
few (r ∷ rs) x y = few_more (squares_of r x y) (cover_count rs x y) (length rs) (few rs x y)

some_more : (b : Bool) (n : ℕ) (c : Bool) → not (eqb n 0) ≡ c → not (eqb (cond b (n + 1) n) 0) ≡ (b || c)
some_more true n c e =
    let k : eqb (n + 1) 0 ≡ false = elim (eqb_tells (n + 1) 0) [ inl t ↦ absurd (let q : n + 1 ≡ 0 = t.1 in omega arith) | inr f ↦ f.0 ] in
    ap not k
some_more false n c e = e

covered_some : (rs : List Rect) (x y : ℤ) → not (eqb (cover_count rs x y) 0) ≡ covered rs x y
covered_some [] x y = refl
covered_some (r ∷ rs) x y = some_more (squares_of r x y) (cover_count rs x y) (covered rs x y) (covered_some rs x y)

-- ---- in 64 bits

pub inside_covered : (rs : List Rect) (x y : ℤ) (begun ended : ℕ) → AllByRecursion IsRect rs → length rs < 2 ^ 64 → begun ≡ times_up_to (lower_sides rs) x y → ended ≡ times_up_to (upper_sides rs) x y → not (eqb (open_count begun ended) 0) ≡ covered rs x y
inside_covered rs x y begun ended a l e f =
    let n = cover_count rs x y in
    let small : n < 2 ^ 64 = (let m = few rs x y in omega arith) in
    let is : begun ≡ ended + n = e ∙ (begun_and_ended rs x y a ∙ ap (λ t. t + n) (sym f)) in
    ap (λ t. not (eqb t 0)) (ap (λ t. open_count t ended) is ∙ difference_is ended n (2 ^ 64 - 1) (2 ^ 64) refl small)
    ∙ covered_some rs x y

pub none_open : (b : ℕ) → not (eqb (open_count b b) 0) ≡ false
none_open b =
    let e : b ≡ b + 0 = omega arith in
    ap (λ t. not (eqb t 0)) (ap (λ t. open_count t b) e ∙ difference_is b 0 (2 ^ 64 - 1) (2 ^ 64) refl (lit< tt))
