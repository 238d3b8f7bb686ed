-- Ends: what turning at one more makes of them, and the flips from one to the next.
use Rattle.std.proofs.Common.{◌≡◌, inl, inr, Bool, true, false, not, ◌&&◌, cond, ℕ, zero, suc, ◌+◌, ◌-◌, ◌<◌, ◌≤◌, ℤ, ◌<ℤ◌, ◌≤ℤ◌, int_le, List, [], ◌∷◌, ◌++◌, length, take, drop, get_or, refl, sym, subst, ap, ◌∙◌, arith}
use Rattle.std.proofs.lemmas.Int.{ints, by_lt_z}
use Rattle.std.proofs.lemmas.List.{get_or_push, length_push, take_all, take_at, take_more}
use Rattle.std.proofs.lemmas.Cmp.{int_cmp_total}
use Rattle.std.proofs.lemmas.List.Elements.{recursion_from_All}
use Rattle.std.proofs.lemmas.List.Sorted.{ranks_by, sorted_far, sum_by-IsPermutation}
use Rattle.std.proofs.lemmas.List.Sums.{sum_by-cons}
use Rattle.std.specs.Bool.{MatchBool}
use Rattle.std.specs.List.{AllByRecursion, AllPairs, sum_by}
use Rattle.std.specs.List.Sorted.{IsPermutation, IsSorted}
use Rattle.std.specs.Ordering.{int_cmp, is_lt}
use Rattle.list_facts.specs.Between.{between}
use Rattle.list_facts.specs.EitherOr.{exactly_one}
use Rattle.list_facts.proofs.EitherOr.{one_assoc, one_right_false}
use Rattle.list_facts.proofs.Members.{all_append, all_weaker}
use Rattle.list_facts.proofs.Tests.{and_known, between_ends, le_false, le_true, not_before}
use Rattle.region_form.specs.declared.flip.Flip.{Flip}
use Rattle.region_form.specs.Flips.{AreBelow, AreSorted, StandsBeforeFirst, is_odd, squares}
use Rattle.region_sweep.specs.Working.Ends.{AscendStrictly, AscendWeakly, DoesNotEndWith, EndsWith, flips_of, is_odd_number, odd_ends}

-- ---- one more end

pub odd_push : (xs : List ℤ) (e x : ℤ) → odd_ends (xs ++ e ∷ []) x ≡ exactly_one (odd_ends xs x) (int_le e x)
odd_push [] e x = one_right_false (int_le e x)
odd_push (a ∷ xs) e x = ap (exactly_one (int_le a x)) (odd_push xs e x) ∙ one_assoc (int_le a x) (odd_ends xs x) (int_le e x)

pub number_push : (xs : List ℤ) (e : ℤ) → is_odd_number (xs ++ e ∷ []) ≡ not (is_odd_number xs)
number_push [] e = refl
number_push (a ∷ xs) e = ap not (number_push xs e)

back : (p q : Bool) → exactly_one (exactly_one p q) q ≡ p
back true true = refl
back true false = refl
back false true = refl
back false false = refl

not_twice : (b : Bool) → b ≡ not (not b)
not_twice true = refl
not_twice false = refl

abbrev pub AllUpTo : ℤ → List ℤ → Type 0
AllUpTo end = AllByRecursion (λ e. e ≤ℤ end)

abbrev pub AllBefore : ℤ → List ℤ → Type 0
AllBefore end = AllByRecursion (λ e. e <ℤ end)

pub strictly_push : (xs : List ℤ) (e : ℤ) → AscendStrictly xs → AllBefore e xs → AscendStrictly (xs ++ e ∷ [])
strictly_push [] e a b = (tt, tt)
strictly_push (x ∷ xs) e a b = (all_append (λ f. x <ℤ f) xs (e ∷ []) a.0 (b.0, tt), strictly_push xs e a.1 b.1)

front_all : (P : ℤ → Type 0) (xs : List ℤ) (e : ℤ) → AllByRecursion P (xs ++ e ∷ []) → AllByRecursion P xs
front_all P [] e h = tt
front_all P (y ∷ ys) e h = (h.0, front_all P ys e h.1)

front_strictly : (xs : List ℤ) (e : ℤ) → AscendStrictly (xs ++ e ∷ []) → AscendStrictly xs
front_strictly [] e a = tt
front_strictly (x ∷ xs) e a = (front_all (λ f. x <ℤ f) xs e a.0, front_strictly xs e a.1)

-- ends that ascend up to one that is not the last of them lie before it
before_other : (xs : List ℤ) (e : ℤ) → AscendStrictly xs → AllUpTo e xs → DoesNotEndWith e xs → AllBefore e xs
before_other [] e a u d = tt
before_other (x ∷ []) e a u d =
    by_lt_z x e (λ l. (l, tt)) (λ l. let q : x ≡ e = (let k : x ≤ℤ e = u.0 in omega (arith, ints)) in absurd (d [] (ap (λ y. y ∷ []) q)))
before_other (x ∷ y ∷ xs) e a u d =
    let k : x <ℤ y = a.0.0 in
    let m : y ≤ℤ e = u.1.0 in
    (omega (arith, ints), before_other (y ∷ xs) e a.1 u.1 (λ front q. d (x ∷ front) (ap (λ zs. x ∷ zs) q)))

pub front_is : (xs ends new : List ℤ) (end : ℤ) (n : ℕ) → xs ≡ new ++ end ∷ [] → n ≡ length xs → ends ≡ take (n - 1) xs → ends ≡ new
front_is xs ends new end n e l t =
    let k : length new ≡ n - 1 = (let m = ap length e in let p = length_push new end in omega arith) in
    t ∙ (ap (take (n - 1)) e ∙ take_at new (end ∷ []) (n - 1) k)

module _ (old new : List ℤ) (end : ℤ) (is : old ≡ new ++ end ∷ []) where
  pub popped_odd : (x : ℤ) → odd_ends new x ≡ exactly_one (odd_ends old x) (int_le end x)
  popped_odd x = sym (ap (λ es. exactly_one (odd_ends es x) (int_le end x)) is ∙ (ap (λ b. exactly_one b (int_le end x)) (odd_push new end x) ∙ back (odd_ends new x) (int_le end x)))

  pub popped_number : is_odd_number new ≡ not (is_odd_number old)
  popped_number = not_twice (is_odd_number new) ∙ ap not (sym (ap is_odd_number is ∙ number_push new end))

  pub popped_ascends : AscendStrictly old → AllUpTo end old → AscendStrictly new × AllUpTo end new
  popped_ascends a u =
      let b : AscendStrictly new = front_strictly new end (subst AscendStrictly is a) in
      (b, front_all (λ e. e ≤ℤ end) new end (subst (AllUpTo end) is u))

module _ (old new : List ℤ) (end : ℤ) (is : new ≡ old ++ end ∷ []) where
  pub pushed_odd : (x : ℤ) → odd_ends new x ≡ exactly_one (odd_ends old x) (int_le end x)
  pushed_odd x = ap (λ es. odd_ends es x) is ∙ odd_push old end x

  pub pushed_number : is_odd_number new ≡ not (is_odd_number old)
  pushed_number = ap is_odd_number is ∙ number_push old end

  pub pushed_ascends : DoesNotEndWith end old → AscendStrictly old → AllUpTo end old → AscendStrictly new × AllUpTo end new
  pushed_ascends d a u = (
    subst AscendStrictly (sym is) (strictly_push old end a (before_other old end a u d)),
    subst (AllUpTo end) (sym is) (all_append (λ e. e ≤ℤ end) old (end ∷ []) u (omega (arith, ints), tt)),
  )

-- ---- the last end

pub last_cases : (b : Bool) (ends : List ℤ) (end d : ℤ) → 1 ≤ length ends → MatchBool b (get_or ends (length ends - 1) d ≡ end) (get_or ends (length ends - 1) d ≡ end → ⊥) → MatchBool b (EndsWith end ends) (DoesNotEndWith end ends)
last_cases true ends end d l e =
    let n = length ends - 1 in
    let up : n + 1 ≡ length ends = omega arith in
    record {
      front = take n ends;
      is = sym (take_all (length ends) ends (omega arith)) ∙ (ap (λ k. take k ends) (sym up) ∙ (take_more ends n d (omega arith) ∙ ap (λ y. take n ends ++ y ∷ []) e));
    }
last_cases false ends end d l f =
    λ front q.
    let n : length front ≡ length ends - 1 = (let m = ap length q in let p = length_push front end in omega arith) in
    f (ap (λ es. get_or es (length ends - 1) d) q ∙ get_or_push front end d (length ends - 1) n)

-- ---- all ends

pub weakly_first : (es : List ℤ) (i : ℕ) (d : ℤ) → i < length es → AscendWeakly es → AllByRecursion (λ e. get_or es i d ≤ℤ e) (drop (i + 1) es)
weakly_first [] i d l a = absurd (omega arith)
weakly_first (e ∷ es) zero d l a = a.0
weakly_first (e ∷ es) (suc i) d l a =
    let q : suc i + 1 ≡ suc (i + 1) = omega arith in
    subst (λ k. AllByRecursion (λ f. get_or es i d ≤ℤ f) (drop k (e ∷ es))) (sym q) (weakly_first es i d (omega arith) a.1)

-- what has been turned at so far lies at or before all that are left
pub up_to_all : (xs : List ℤ) (e : ℤ) (rest : List ℤ) → AllUpTo e xs → AllByRecursion (λ f. e ≤ℤ f) rest → AllByRecursion (λ f. AllUpTo f xs) rest
up_to_all xs e rest u a = all_weaker (λ f. e ≤ℤ f) (λ f. AllUpTo f xs) (λ f h. all_weaker (λ g. g ≤ℤ e) (λ g. g ≤ℤ f) (λ g k. omega (arith, ints)) xs u) rest a

pub one_left : (old new whole : Bool) (t rest : Bool) → exactly_one old (exactly_one t rest) ≡ whole → new ≡ exactly_one old t → exactly_one new rest ≡ whole
one_left old new whole t rest e f = ap (λ b. exactly_one b rest) f ∙ (sym (one_assoc old t rest) ∙ e)

-- ---- flips

pub two_more : (line : ℤ) (es : List ℤ) (c d : ℤ) → 2 ≤ length es → flips_of line es ≡ record { y = line; x0 = get_or es 0 c; x1 = get_or es 1 d } ∷ flips_of line (drop 2 es)
two_more line [] c d l = absurd (omega arith)
two_more line (a ∷ []) c d l = absurd (omega arith)
two_more line (a ∷ b ∷ es) c d l = refl

pub too_few : (line : ℤ) (es : List ℤ) → length es < 2 → flips_of line es ≡ []
too_few line [] l = refl
too_few line (a ∷ []) l = refl
too_few line (a ∷ b ∷ es) l = absurd (omega arith)

even_rest : (b : Bool) → not (not b) ≡ false → b ≡ false
even_rest true e = e
even_rest false e = e

-- an even number of ends changes the columns that the flips change
pub odd_flips : (line : ℤ) (es : List ℤ) (x : ℤ) → AscendStrictly es → is_odd_number es ≡ false → is_odd (flips_of line es) x ≡ odd_ends es x
odd_flips line [] x a n = refl
odd_flips line (e ∷ []) x a n = absurd (mathlib.Core.Bool.true≢false n)
odd_flips line (e ∷ f ∷ es) x a n =
    ap (λ b. exactly_one b (is_odd (flips_of line es) x)) (between_ends e f x a.0.0)
    ∙ (ap (exactly_one (exactly_one (int_le e x) (int_le f x))) (odd_flips line es x a.1.1 (even_rest (is_odd_number es) n))
    ∙ sym (one_assoc (int_le e x) (int_le f x) (odd_ends es x)))

next_behind : (line : ℤ) (e f : ℤ) (es : List ℤ) → AllByRecursion (λ g. f <ℤ g) es → StandsBeforeFirst (record { y = line; x0 = e; x1 = f }) (flips_of line es)
next_behind line e f [] a = tt
next_behind line e f (g ∷ []) a = tt
next_behind line e f (g ∷ h ∷ es) a = inr (refl, a.0)

pub sorted_flips : (line : ℤ) (es : List ℤ) → AscendStrictly es → AreSorted (flips_of line es)
sorted_flips line [] a = tt
sorted_flips line (e ∷ []) a = tt
sorted_flips line (e ∷ f ∷ es) a = (a.0.0, next_behind line e f es a.1.0, sorted_flips line es a.1.1)

pub below_flips : (line y : ℤ) (es : List ℤ) → line <ℤ y → AreBelow y (flips_of line es)
below_flips line y [] l = tt
below_flips line y (e ∷ []) l = tt
below_flips line y (e ∷ f ∷ es) l = (l, below_flips line y es l)

-- the flips of a line count from it on
pub squares_flips_above : (line : ℤ) (es : List ℤ) (x y : ℤ) → line ≤ℤ y → squares (flips_of line es) x y ≡ is_odd (flips_of line es) x
squares_flips_above line [] x y l = refl
squares_flips_above line (e ∷ []) x y l = refl
squares_flips_above line (e ∷ f ∷ es) x y l =
    ap (λ b. exactly_one b (squares (flips_of line es) x y)) (and_known (int_le line y) (between e f x) (le_true line y l))
    ∙ ap (exactly_one (between e f x)) (squares_flips_above line es x y l)

pub squares_flips_below : (line : ℤ) (es : List ℤ) (x y : ℤ) → y <ℤ line → squares (flips_of line es) x y ≡ false
squares_flips_below line [] x y l = refl
squares_flips_below line (e ∷ []) x y l = refl
squares_flips_below line (e ∷ f ∷ es) x y l =
    ap (λ b. exactly_one (b && between e f x) (squares (flips_of line es) x y)) (le_false line y l) ∙ squares_flips_below line es x y l

-- flips behind others, all of which lie below them
stands_join : (y : ℤ) (f : Flip) (fs gs : List Flip) → f.y <ℤ y → AllByRecursion (λ g. g.y ≡ y) gs → StandsBeforeFirst f fs → StandsBeforeFirst f (fs ++ gs)
stands_join y f [] [] l a s = tt
stands_join y f [] (g ∷ gs) l a s = inl (let q : g.y ≡ y = a.0 in omega (arith, ints))
stands_join y f (h ∷ fs) gs l a s = s

pub sorted_join : (y : ℤ) (fs gs : List Flip) → AreSorted fs → AreBelow y fs → AllByRecursion (λ g. g.y ≡ y) gs → AreSorted gs → AreSorted (fs ++ gs)
sorted_join y [] gs s b a t = t
sorted_join y (f ∷ fs) gs s b a t = (s.0, stands_join y f fs gs b.0 a s.1, sorted_join y fs gs s.2 b.1 a t)

pub on_line : (line : ℤ) (es : List ℤ) → AllByRecursion (λ g. g.y ≡ line) (flips_of line es)
on_line line [] = tt
on_line line (e ∷ []) = tt
on_line line (e ∷ f ∷ es) = (refl, on_line line es)

-- ---- a sort moves ends, and changes no column

abbrev odd_of : ℕ → Bool
odd_of zero = false
odd_of (suc n) = not (odd_of n)

odd_more : (b : Bool) (n : ℕ) → odd_of (cond b 1 0 + n) ≡ exactly_one b (odd_of n)
odd_more true n = let e : 1 + n ≡ suc n = omega arith in ap odd_of e
odd_more false n = let e : 0 + n ≡ n = omega arith in ap odd_of e

odd_sum : (es : List ℤ) (x : ℤ) → odd_ends es x ≡ odd_of (sum_by (λ e. cond (int_le e x) 1 0) es)
odd_sum [] x = refl
odd_sum (e ∷ es) x =
    ap (exactly_one (int_le e x)) (odd_sum es x)
    ∙ (sym (odd_more (int_le e x) (sum_by (λ e. cond (int_le e x) 1 0) es))
    ∙ ap odd_of (sym (sum_by-cons (λ e. cond (int_le e x) 1 0) e es)))

number_sum : (es : List ℤ) → is_odd_number es ≡ odd_of (sum_by (λ (e : ℤ). 1) es)
number_sum [] = refl
number_sum (e ∷ es) =
    let n = sum_by (λ (e : ℤ). 1) es in
    let k : 1 + n ≡ suc n = omega arith in
    ap not (number_sum es) ∙ (ap odd_of (sym k) ∙ ap odd_of (sym (sum_by-cons (λ (e : ℤ). 1) e es)))

pub odd_moved : (xs ys : List ℤ) (x : ℤ) → IsPermutation xs ys → odd_ends ys x ≡ odd_ends xs x
odd_moved xs ys x p =
    odd_sum ys x ∙ (ap odd_of (sum_by-IsPermutation (λ e. cond (int_le e x) 1 0) xs ys p) ∙ sym (odd_sum xs x))

pub number_moved : (xs ys : List ℤ) → IsPermutation xs ys → is_odd_number ys ≡ is_odd_number xs
number_moved xs ys p =
    number_sum ys ∙ (ap odd_of (sum_by-IsPermutation (λ (e : ℤ). 1) xs ys p) ∙ sym (number_sum xs))

weakly_from_pairs : (es : List ℤ) → AllPairs (λ a b. a ≤ℤ b) es → AscendWeakly es
weakly_from_pairs [] h = tt
weakly_from_pairs (e ∷ es) h = (
  recursion_from_All (λ f. e ≤ℤ f) es (λ k d lt. h 0 (suc k) d (omega arith) (omega arith)),
  weakly_from_pairs es (λ i j d lt less. h (suc i) (suc j) d (omega arith) (omega arith)),
)

pub weakly_from_sort : (es : List ℤ) → IsSorted int_cmp es → AscendWeakly es
weakly_from_sort es up =
    weakly_from_pairs es (λ i j d lt less.
    not_before (get_or es i d) (get_or es j d)
    (sorted_far (λ (a : ℤ) (b : ℤ). is_lt (int_cmp a b)) (ranks_by int_cmp_total (λ (t : ℤ). t)) es up i j d (omega arith) less))

number_step : (old rest : Bool) → exactly_one (not old) rest ≡ exactly_one old (not rest)
number_step true true = refl
number_step true false = refl
number_step false rest = refl

pub number_left : (old new whole rest : Bool) → exactly_one old (not rest) ≡ whole → new ≡ not old → exactly_one new rest ≡ whole
number_left old new whole rest e f = ap (λ b. exactly_one b rest) f ∙ (number_step old rest ∙ e)
