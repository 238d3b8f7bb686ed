-- The laws of run order: it is total, ties equal runs alone, and at equal ends and sides compares by the last column.
use Rattle.std.proofs.Common.{◌≡◌, ℕ, ◌==◌, Bool, true, cond, ◌&&◌, ℤ, ◌<ℤ◌, ◌-ℤ◌, refl, sym, ap, subst, ◌∙◌, arith, rules}
use Rattle.std.proofs.lemmas.Bool.{and_from}
use Rattle.std.proofs.lemmas.Int.{ints}
use Rattle.std.specs.Cmp.{IsTotalOrder, IsPartialOrder, po, both_ways, Equal-is, then_total, on_total, tied_itself, nat_cmp_total, int_cmp_total, int_eq_equiv, ranked, int_ranked, int_ranks, int_cmp_is, signed_Decides, first_so, second_so}
use Rattle.std.specs.Ordering.{nat_cmp, int_cmp, int_eq, is_eq, as_partial_cmp, ordering_then, MatchOrdering}
use Rattle.std.specs.declared.cmp.Ordering.{Ordering}
use Rattle.std.specs.declared.cmp.Ordering.TheVariants.{Less, Equal, Greater}
use mathlib.Core.Bool.{true≢false}
use denote.Enum.Bare.{sameb, same_true}
use Rattle.drc_geom.specs.contracts.unit.Side as side_contract
use Rattle.drc_geom.specs.declared.unit.Side.{Side}
use Rattle.drc_geom.specs.declared.unit.Side.TheVariants.{N, E, S, W}
use Rattle.drc_geom.specs.declared.run.Run.{Run}
use Rattle.drc_geom.specs.Runs.{end_x, end_y, side_rank, length_of, run_order}

pub run_order_total : IsTotalOrder run_order
run_order_total =
    then_total (on_total (λ r. end_y r.side r.line r.lo) int_cmp_total)
    (then_total (on_total (λ r. end_x r.side r.line r.lo) int_cmp_total)
    (then_total (on_total (λ r. side_rank r.side) nat_cmp_total) (on_total length_of int_cmp_total)))

-- ---- what a tie says

side_at : ℕ → Side
side_at n = cond (n == 0) N (cond (n == 1) S (cond (n == 2) E W))

side_at_rank : (s : Side) → side_at (side_rank s) ≡ s
unfolding side_at
side_at_rank N = refl
side_at_rank S = refl
side_at_rank E = refl
side_at_rank W = refl

pub same_side : (s t : Side) → side_rank s ≡ side_rank t → s ≡ t
same_side s t e = sym (side_at_rank s) ∙ ap side_at e ∙ side_at_rank t

one_place_at : (s : Side) (l o m p : ℤ) → end_x s l o ≡ end_x s m p → end_y s l o ≡ end_y s m p → (l ≡ m) × (o ≡ p)
one_place_at N l o m p x y = (y, x)
one_place_at S l o m p x y = (y, x)
one_place_at E l o m p x y = (x, y)
one_place_at W l o m p x y = (x, y)

-- one side and one end: one line and one first column
pub one_place : (a b : Run) → a.side ≡ b.side → end_x a.side a.line a.lo ≡ end_x b.side b.line b.lo → end_y a.side a.line a.lo ≡ end_y b.side b.line b.lo → (a.line ≡ b.line) × (a.lo ≡ b.lo)
one_place a b e =
    subst (λ u. end_x a.side a.line a.lo ≡ end_x u b.line b.lo → end_y a.side a.line a.lo ≡ end_y u b.line b.lo → (a.line ≡ b.line) × (a.lo ≡ b.lo)) e
    (one_place_at a.side a.line a.lo b.line b.lo)

pub first_tied : (p q : Ordering) → ordering_then p q ≡ Equal → p ≡ Equal
first_tied Less q e = e
first_tied Equal q e = refl
first_tied Greater q e = e

pub rest_tied : (p q : Ordering) → ordering_then p q ≡ Equal → q ≡ Equal
rest_tied Less q e = absurd (true≢false (sym (ap is_eq e)))
rest_tied Equal q e = e
rest_tied Greater q e = absurd (true≢false (sym (ap is_eq e)))

nat_tied : (x y : ℕ) → nat_cmp x y ≡ Equal → x ≡ y
nat_tied x y e = ranked x y Equal (sym e)

int_tied : (x y : ℤ) → int_cmp x y ≡ Equal → x ≡ y
int_tied x y e = int_ranked x y Equal (sym e)

pub run_equal : (a b : Run) → a.side ≡ b.side → a.line ≡ b.line → a.lo ≡ b.lo → a.hi ≡ b.hi → a ≡ b
run_equal a b s l o h i = record { side = s i; line = l i; lo = o i; hi = h i }

same_high : (a b c d : ℤ) → (b -ℤ a) ≡ (d -ℤ c) → a ≡ c → b ≡ d
same_high a b c d e f = omega (arith, ints)

tied_parts : (a b : Run) → int_cmp (end_y a.side a.line a.lo) (end_y b.side b.line b.lo) ≡ Equal → int_cmp (end_x a.side a.line a.lo) (end_x b.side b.line b.lo) ≡ Equal → nat_cmp (side_rank a.side) (side_rank b.side) ≡ Equal → (a.side ≡ b.side) × (a.line ≡ b.line) × (a.lo ≡ b.lo)
tied_parts a b y x r =
    let s : a.side ≡ b.side = same_side a.side b.side (nat_tied (side_rank a.side) (side_rank b.side) r) in
    let place = one_place a b s (int_tied _ _ x) (int_tied _ _ y) in
    (s, place.0, place.1)

-- runs that run order ties are equal
pub run_order_ties : (a b : Run) → run_order a b ≡ Equal → a ≡ b
run_order_ties a b e =
    let y = first_tied (int_cmp (end_y a.side a.line a.lo) (end_y b.side b.line b.lo)) _ e in
    let e2 = rest_tied (int_cmp (end_y a.side a.line a.lo) (end_y b.side b.line b.lo)) _ e in
    let x = first_tied (int_cmp (end_x a.side a.line a.lo) (end_x b.side b.line b.lo)) _ e2 in
    let e3 = rest_tied (int_cmp (end_x a.side a.line a.lo) (end_x b.side b.line b.lo)) _ e2 in
    let r = first_tied (nat_cmp (side_rank a.side) (side_rank b.side)) _ e3 in
    let h = rest_tied (nat_cmp (side_rank a.side) (side_rank b.side)) _ e3 in
    let p = tied_parts a b y x r in
    run_equal a b p.0 p.1 p.2 (same_high a.lo a.hi b.lo b.hi (int_tied (length_of a) (length_of b) h) p.2)

-- ---- `==`

abbrev run_eq : Run → Run → Bool
run_eq a b = sameb side_contract.the_type a.side b.side && (int_eq a.line b.line && (int_eq a.lo b.lo && int_eq a.hi b.hi))

side_eq_tells : (s t : Side) → sameb side_contract.the_type s t ≡ true → s ≡ t
side_eq_tells s t e = same_true side_contract.the_type (search rules) s t e

side_eq_itself : (s : Side) → sameb side_contract.the_type s s ≡ true
side_eq_itself N = refl
side_eq_itself S = refl
side_eq_itself E = refl
side_eq_itself W = refl

run_eq_itself : (a : Run) → run_eq a a ≡ true
run_eq_itself a =
    and_from _ _ (side_eq_itself a.side)
    (and_from _ _ (int_eq_equiv.refl a.line) (and_from _ _ (int_eq_equiv.refl a.lo) (int_eq_equiv.refl a.hi)))

run_eq_tells : (a b : Run) → run_eq a b ≡ true → a ≡ b
run_eq_tells a b e =
    let r1 = second_so (sameb side_contract.the_type a.side b.side) _ e in
    let r2 = second_so (int_eq a.line b.line) _ r1 in
    run_equal a b (side_eq_tells a.side b.side (first_so (sameb side_contract.the_type a.side b.side) _ e))
    ((signed_Decides a.line b.line).0 (first_so (int_eq a.line b.line) _ r1))
    ((signed_Decides a.lo b.lo).0 (first_so (int_eq a.lo b.lo) _ r2))
    ((signed_Decides a.hi b.hi).0 (second_so (int_eq a.lo b.lo) _ r2))

pub run_order_matches_eq : (a b : Run) → run_eq a b ≡ is_eq (run_order a b)
run_order_matches_eq a b =
    both_ways (run_eq a b) (is_eq (run_order a b))
    (λ e. subst (λ c. is_eq (run_order a c) ≡ true) (run_eq_tells a b e) (ap is_eq (tied_itself run_order_total a)))
    (λ e. subst (λ c. run_eq a c ≡ true) (run_order_ties a b ((Equal-is (run_order a b)).0 e)) (run_eq_itself a))

pub run_order_partial : IsPartialOrder run_eq (as_partial_cmp run_order)
run_order_partial = po run_order_total run_order_matches_eq

-- ---- how the code compares

then_under : (p q r : Ordering) → (p ≡ Equal → q ≡ r) → ordering_then p q ≡ ordering_then p r
then_under Less q r f = refl
then_under Equal q r f = f refl
then_under Greater q r f = refl

shifted : (r : Ordering) (a b c d : ℤ) → a ≡ c → MatchOrdering r (b <ℤ d) (b ≡ d) (d <ℤ b) → MatchOrdering r ((b -ℤ a) <ℤ (d -ℤ c)) ((b -ℤ a) ≡ (d -ℤ c)) ((d -ℤ c) <ℤ (b -ℤ a))
shifted Less a b c d e h = omega (arith, ints)
shifted Equal a b c d e h = omega (arith, ints)
shifted Greater a b c d e h = omega (arith, ints)

by_high : (a b c d : ℤ) → a ≡ c → int_cmp b d ≡ int_cmp (b -ℤ a) (d -ℤ c)
by_high a b c d e = int_cmp_is (b -ℤ a) (d -ℤ c) (int_cmp b d) (shifted (int_cmp b d) a b c d e (int_ranks b d))

-- of runs whose lower ends lie on one line, with one first column and side, the shorter has the lower hi
pub run_order_level : (a b : Run) → int_cmp (end_y a.side a.line a.lo) (end_y b.side b.line b.lo) ≡ Equal → ordering_then (int_cmp (end_x a.side a.line a.lo) (end_x b.side b.line b.lo)) (ordering_then (nat_cmp (side_rank a.side) (side_rank b.side)) (int_cmp a.hi b.hi)) ≡ run_order a b
run_order_level a b ty =
    then_under (int_cmp (end_x a.side a.line a.lo) (end_x b.side b.line b.lo)) _ _
    (λ tx. then_under (nat_cmp (side_rank a.side) (side_rank b.side)) (int_cmp a.hi b.hi) (int_cmp (length_of a) (length_of b))
    (λ tr. by_high a.lo a.hi b.lo b.hi (tied_parts a b ty tx tr).2))
    ∙ sym (ap (λ y. ordering_then y (ordering_then (int_cmp (end_x a.side a.line a.lo) (end_x b.side b.line b.lo)) (ordering_then (nat_cmp (side_rank a.side) (side_rank b.side)) (int_cmp (length_of a) (length_of b))))) ty)
