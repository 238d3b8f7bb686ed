-- The sweep: how it begins, what passing a line keeps, and what it ends with.
use Rattle.std.proofs.Common.{◌≡◌, Bool, true, false, inl, inr, ◌⊎◌, cond, ℕ, ◌+◌, ◌<◌, ◌≤◌, ℤ, ◌<ℤ◌, ◌≤ℤ◌, int_le, int_lt, Some, None, List, [], ◌∷◌, ◌++◌, length, refl, sym, subst, ap, ◌∙◌, append_assoc, arith}
use Rattle.std.proofs.lemmas.Int.{ints, by_lt_z}
use Rattle.std.proofs.lemmas.List.{append-nil, length-drop}
use Rattle.std.proofs.lemmas.Option.{same_Some}
use Rattle.std.specs.List.{AllByRecursion, before_first, position_or_len}
use Rattle.list_facts.specs.EitherOr.{exactly_one}
use Rattle.list_facts.proofs.EitherOr.{one_from_right_false}
use Rattle.list_facts.proofs.Members.{all_append, all_weaker}
use Rattle.list_facts.proofs.Tests.{le_false, le_from_false, le_true, lt_false, lt_from_true}
use Rattle.chunked_list.specs.Stretches.{from_first}
use Rattle.chunked_list.proofs.Stretches.{before_and_from, before_fails, from_failed, from_passes}
use Rattle.row_state.specs.declared.entry.Entry.{Entry}
use Rattle.row_state.specs.Entries.{value_from}
use Rattle.region_form.specs.declared.flip.Flip.{Flip}
use Rattle.region_form.specs.Flips.{AreBelow, AreSorted, IsRegion, is_odd, squares}
use Rattle.region_form.proofs.FlipLines.{below_up}
use Rattle.region_form.proofs.Parity.{is_odd_append, squares_append}
use Rattle.region_sweep.specs.Counts.{Rise, times, times_up_to}
use Rattle.region_sweep.specs.Working.Ends.{AscendStrictly, flips_of, is_odd_number, odd_ends}
use Rattle.region_sweep.specs.Working.Lines.{lower_line}
use Rattle.region_sweep.specs.Working.Sweeps.{IsSwept, reached, repeated, sweep}
use Rattle.region_sweep.proofs.CountedFlips.{repeated_counts, rise_monotone, rise_right, times_join, up_to_all, up_to_join, up_to_none}
use Rattle.region_sweep.proofs.EndFlips.{below_flips, odd_flips, on_line, sorted_flips, sorted_join, squares_flips_above, squares_flips_below}

-- ---- the next line

either_line : (P : ℤ → Type 0) (p q line : ℤ) (c : Bool) → Some line ≡ Some (cond c p q) → P p → P q → P line
either_line P p q line true e a b = let d : p ≡ line = cc in subst P d a
either_line P p q line false e a b = let d : q ≡ line = cc in subst P d b

-- what holds at the lines of all flips that are left holds at the next line
pub at_next : (P : ℤ → Type 0) (first second : List Flip) (line : ℤ) → Some line ≡ lower_line first second → AllByRecursion (λ f. P f.y) first → AllByRecursion (λ f. P f.y) second → P line
at_next P [] [] line e a b = absurd cc
at_next P (f ∷ fs) [] line e a b = let q : f.y ≡ line = cc in subst P q a.0
at_next P [] (g ∷ gs) line e a b = let q : g.y ≡ line = cc in subst P q b.0
at_next P (f ∷ fs) (g ∷ gs) line e a b = either_line P f.y g.y line (int_le f.y g.y) e a.0 b.0

rise_from : (line : ℤ) (f : Flip) (fs : List Flip) → line ≤ℤ f.y → AllByRecursion (λ g. f.y ≤ℤ g.y) fs → AllByRecursion (λ g. line ≤ℤ g.y) (f ∷ fs)
rise_from line f fs l a = (l, all_weaker (λ g. f.y ≤ℤ g.y) (λ g. line ≤ℤ g.y) (λ g k. omega (arith, ints)) fs a)

lower_le : (a b line : ℤ) → Some line ≡ Some (cond (int_le a b) a b) → (line ≤ℤ a) × (line ≤ℤ b)
lower_le a b line e =
    by_lt_z b a
    (λ l. let q : line ≡ b = same_Some line b (e ∙ ap (λ c. Some (cond c a b)) (le_false a b l)) in (omega (arith, ints), omega (arith, ints)))
    (λ l. let q : line ≡ a = same_Some line a (e ∙ ap (λ c. Some (cond c a b)) (le_true a b l)) in (omega (arith, ints), omega (arith, ints)))

-- no flip that is left lies below the next line
pub none_lower : (first second : List Flip) (line : ℤ) → Some line ≡ lower_line first second → Rise first → Rise second → AllByRecursion (λ f. line ≤ℤ f.y) first × AllByRecursion (λ f. line ≤ℤ f.y) second
none_lower [] [] line e r s = absurd cc
none_lower (f ∷ fs) [] line e r s = let q : line ≡ f.y = cc in (rise_from line f fs (omega (arith, ints)) r.0, tt)
none_lower [] (g ∷ gs) line e r s = let q : line ≡ g.y = cc in (tt, rise_from line g gs (omega (arith, ints)) s.0)
none_lower (f ∷ fs) (g ∷ gs) line e r s =
    let l = lower_le f.y g.y line e in
    (rise_from line f fs l.0 r.0, rise_from line g gs l.1 s.0)

pub no_line : (first second : List Flip) → None ≡ lower_line first second → (first ≡ []) × (second ≡ [])
no_line [] [] e = (refl, refl)
no_line (f ∷ fs) [] e = absurd cc
no_line [] (g ∷ gs) e = absurd cc
no_line (f ∷ fs) (g ∷ gs) e = absurd cc

all_both : (P Q R : Flip → Type 0) → ((f : Flip) → P f → Q f → R f) → (fs : List Flip) → AllByRecursion P fs → AllByRecursion Q fs → AllByRecursion R fs
all_both P Q R h [] a b = tt
all_both P Q R h (f ∷ fs) a b = (h f a.0 b.0, all_both P Q R h fs a.1 b.1)

all_right : (P : Flip → Type 0) (xs ys : List Flip) → AllByRecursion P (xs ++ ys) → AllByRecursion P ys
all_right P [] ys a = a
all_right P (x ∷ xs) ys a = all_right P xs ys a.1

all_left : (P : Flip → Type 0) (xs ys : List Flip) → AllByRecursion P (xs ++ ys) → AllByRecursion P xs
all_left P [] ys a = tt
all_left P (x ∷ xs) ys a = (a.0, all_left P xs ys a.1)

-- what lies on the next line, and what lies above it
pub record IsCutAt (line : ℤ) (left now later : List Flip) : Type 0 where
  pub parts : now ++ later ≡ left
  pub on : AllByRecursion (λ f. f.y ≡ line) now
  pub above : AllByRecursion (λ f. line <ℤ f.y) later

pub cut_at : (line : ℤ) (left : List Flip) → Rise left → AllByRecursion (λ f. line ≤ℤ f.y) left → IsCutAt line left (before_first (λ (f : Flip). int_lt line f.y) left) (from_first (λ (f : Flip). int_lt line f.y) left)
cut_at line left r a =
    let p : Flip → Bool = λ f. int_lt line f.y in
    let parts = before_and_from p left in
    record {
      parts = parts;
      on = all_both (λ f. line ≤ℤ f.y) (λ f. p f ≡ false) (λ f. f.y ≡ line) (λ f k t. let m = le_from_false line f.y t in omega (arith, ints)) (before_first p left) (all_left (λ f. line ≤ℤ f.y) (before_first p left) (from_first p left) (subst (AllByRecursion (λ (f : Flip). line ≤ℤ f.y)) (sym parts) a)) (before_fails p left);
      above = all_weaker (λ f. p f ≡ true) (λ f. line <ℤ f.y) (λ f t. lt_from_true line f.y t) (from_first p left) (from_passes p left (rise_monotone line left r));
    }

lower_is : (c : Bool) (a b line : ℤ) → Some line ≡ Some (cond c a b) → (a ≡ line) ⊎ (b ≡ line)
lower_is true a b line e = inl (sym (same_Some line a e))
lower_is false a b line e = inr (sym (same_Some line b e))

no_more_later : (p : Flip → Bool) (fs : List Flip) → length (from_first p fs) ≤ length fs
no_more_later p fs = omega (arith, length-drop (position_or_len p fs) fs)

fewer_later : (line : ℤ) (f : Flip) (fs : List Flip) → f.y ≡ line → length (from_first (λ (g : Flip). int_lt line g.y) (f ∷ fs)) < length (f ∷ fs)
fewer_later line f fs q =
    let p : Flip → Bool = λ g. int_lt line g.y in
    let e = ap length (from_failed p f fs (lt_false line f.y (omega (arith, ints)))) in
    let m = no_more_later p fs in
    omega arith

-- a line passes at least one flip
pub fewer : (first second : List Flip) (line : ℤ) → Some line ≡ lower_line first second → length (from_first (λ (g : Flip). int_lt line g.y) first) + length (from_first (λ (g : Flip). int_lt line g.y) second) < length first + length second
fewer [] [] line e = absurd cc
fewer (f ∷ fs) [] line e = let q : f.y ≡ line = cc in let l = fewer_later line f fs q in omega arith
fewer [] (g ∷ gs) line e = let q : g.y ≡ line = cc in let l = fewer_later line g gs q in omega arith
fewer (f ∷ fs) (g ∷ gs) line e =
    let p : Flip → Bool = λ h. int_lt line h.y in
    let m = no_more_later p (f ∷ fs) in
    let n = no_more_later p (g ∷ gs) in
    elim (lower_is (int_le f.y g.y) f.y g.y line e) [
      | inl q ↦ let l = fewer_later line f fs q in omega arith
      | inr q ↦ let l = fewer_later line g gs q in omega arith
    ]

module _ {V : Type 0} (inside : V → Bool) (counted : ℕ → ℕ → V) (none : V) (first second : List Flip) where
  none_past : (fs : List Flip) → AllByRecursion (λ (g : Flip). AreBelow g.y [] × AreBelow g.y [] × AreBelow g.y []) fs
  none_past [] = tt
  none_past (f ∷ fs) = ((tt, tt, tt), none_past fs)

  pub begun : none ≡ counted 0 0 → inside (counted 0 0) ≡ false → IsSwept (sweep inside counted none first second) (reached [] [] first second)
  begun e f = record {
    past_first = [];
    past_second = [];
    is_first = refl;
    is_second = refl;
    values = λ x. e;
    has_squares = λ x y. sym f;
    odd = λ x. sym f;
    sorted = tt;
    below_first = none_past first;
    below_second = none_past second;
  }

  module _ (makes_first makes_second : V → V) (counts_first : (a b : ℕ) → makes_first (counted a b) ≡ counted (a + 1) b) (counts_second : (a b : ℕ) → makes_second (counted a b) ≡ counted a (b + 1)) (rise_first : Rise first) (rise_second : Rise second) where
    module _ (row new_row : List (Entry V)) (out new_out left_first left_second : List Flip) (line : ℤ) (swept : IsSwept (sweep inside counted none first second) (reached row out left_first left_second)) (is_next : Some line ≡ lower_line left_first left_second) where
      lines : AllByRecursion (λ f. line ≤ℤ f.y) left_first × AllByRecursion (λ f. line ≤ℤ f.y) left_second
      lines = none_lower left_first left_second line is_next (rise_right swept.past_first left_first (subst Rise (sym swept.is_first) rise_first)) (rise_right swept.past_second left_second (subst Rise (sym swept.is_second) rise_second))

      below : AreBelow line out × AreBelow line swept.past_first × AreBelow line swept.past_second
      below = at_next (λ y. AreBelow y out × AreBelow y swept.past_first × AreBelow y swept.past_second) left_first left_second line is_next swept.below_first swept.below_second

      cut_first : IsCutAt line left_first (before_first (λ (f : Flip). int_lt line f.y) left_first) (from_first (λ (f : Flip). int_lt line f.y) left_first)
      cut_first = cut_at line left_first (rise_right swept.past_first left_first (subst Rise (sym swept.is_first) rise_first)) lines.0

      cut_second : IsCutAt line left_second (before_first (λ (f : Flip). int_lt line f.y) left_second) (from_first (λ (f : Flip). int_lt line f.y) left_second)
      cut_second = cut_at line left_second (rise_right swept.past_second left_second (subst Rise (sym swept.is_second) rise_second)) lines.1

      pub first_cut : (now later : List Flip) → now ≡ before_first (λ (f : Flip). int_lt line f.y) left_first → later ≡ from_first (λ (f : Flip). int_lt line f.y) left_first → IsCutAt line left_first now later
      first_cut now later e f = subst (λ fs. IsCutAt line left_first fs later) (sym e) (subst (IsCutAt line left_first (before_first (λ (f : Flip). int_lt line f.y) left_first)) (sym f) cut_first)

      pub second_cut : (now later : List Flip) → now ≡ before_first (λ (f : Flip). int_lt line f.y) left_second → later ≡ from_first (λ (f : Flip). int_lt line f.y) left_second → IsCutAt line left_second now later
      second_cut now later e f = subst (λ fs. IsCutAt line left_second fs later) (sym e) (subst (IsCutAt line left_second (before_first (λ (f : Flip). int_lt line f.y) left_second)) (sym f) cut_second)

      module _ (first_now first_later second_now second_later : List Flip) (a : IsCutAt line left_first first_now first_later) (b : IsCutAt line left_second second_now second_later)
          (values : (x : ℤ) → value_from none new_row x ≡ repeated makes_second (times second_now x) (repeated makes_first (times first_now x) (value_from none row x)))
          (ends : List ℤ) (ascend : AscendStrictly ends) (even : is_odd_number ends ≡ false)
          (turned : (x : ℤ) → odd_ends ends x ≡ exactly_one (inside (value_from none new_row x)) (inside (value_from none row x)))
          (went_out : new_out ≡ out ++ flips_of line ends) where
        new_values : (x : ℤ) → value_from none new_row x ≡ counted (times (swept.past_first ++ first_now) x) (times (swept.past_second ++ second_now) x)
        new_values x =
            let p = times swept.past_first x in
            let q = times swept.past_second x in
            let n = times first_now x in
            let m = times second_now x in
            values x
            ∙ (ap (λ v. repeated makes_second m (repeated makes_first n v)) (swept.values x)
            ∙ (ap (repeated makes_second m) (repeated_counts makes_first (λ k. counted k q) (λ k. counts_first k q) n p)
            ∙ (repeated_counts makes_second (λ k. counted (p + n) k) (λ k. counts_second (p + n) k) m q
            ∙ (ap (λ k. counted k (q + m)) (sym (times_join swept.past_first first_now x)) ∙ ap (counted (times (swept.past_first ++ first_now) x)) (sym (times_join swept.past_second second_now x))))))

        new_flips : (x : ℤ) → is_odd (flips_of line ends) x ≡ exactly_one (inside (value_from none new_row x)) (inside (value_from none row x))
        new_flips x = odd_flips line ends x ascend even ∙ turned x

        -- what went out before, changed where inside changes
        changed : (old new : Bool) → exactly_one old (exactly_one new old) ≡ new
        changed true true = refl
        changed true false = refl
        changed false true = refl
        changed false false = refl

        odd_old : (x : ℤ) → is_odd out x ≡ inside (value_from none row x)
        odd_old x = swept.odd x ∙ ap inside (sym (swept.values x))

        new_odd : (x : ℤ) → is_odd new_out x ≡ inside (counted (times (swept.past_first ++ first_now) x) (times (swept.past_second ++ second_now) x))
        new_odd x =
            ap (λ fs. is_odd fs x) went_out
            ∙ (is_odd_append out (flips_of line ends) x
            ∙ (ap (λ q. exactly_one q (is_odd (flips_of line ends) x)) (odd_old x)
            ∙ (ap (exactly_one (inside (value_from none row x))) (new_flips x)
            ∙ (changed (inside (value_from none row x)) (inside (value_from none new_row x)) ∙ ap inside (new_values x)))))

        up_to : (y : ℤ) (fs : List Flip) → line ≤ℤ y → AreBelow line fs → AllByRecursion (λ f. f.y ≤ℤ y) fs
        up_to y fs l a = all_weaker (λ f. f.y <ℤ line) (λ f. f.y ≤ℤ y) (λ f k. omega (arith, ints)) fs a

        counts_above : (past now : List Flip) (x y : ℤ) → line ≤ℤ y → AreBelow line past → AllByRecursion (λ f. f.y ≡ line) now → times_up_to (past ++ now) x y ≡ times (past ++ now) x
        counts_above past now x y l p n =
            up_to_all (past ++ now) x y (all_append (λ f. f.y ≤ℤ y) past now (up_to y past l p) (all_weaker (λ f. f.y ≡ line) (λ f. f.y ≤ℤ y) (λ f k. omega (arith, ints)) now n))

        counts_below : (past now : List Flip) (x y : ℤ) → y <ℤ line → AllByRecursion (λ f. f.y ≡ line) now → times_up_to (past ++ now) x y ≡ times_up_to past x y
        counts_below past now x y l n =
            let z = up_to_none now x y (all_weaker (λ f. f.y ≡ line) (λ f. y <ℤ f.y) (λ f k. omega (arith, ints)) now n) in
            up_to_join past now x y ∙ (let e : times_up_to past x y + times_up_to now x y ≡ times_up_to past x y = omega arith in e)

        new_squares : (x y : ℤ) → squares new_out x y ≡ inside (counted (times_up_to (swept.past_first ++ first_now) x y) (times_up_to (swept.past_second ++ second_now) x y))
        new_squares x y =
            ap (λ fs. squares fs x y) went_out
            ∙ (squares_append out (flips_of line ends) x y
            ∙ by_lt_z y line
            (λ l.
            one_from_right_false (squares out x y) (squares (flips_of line ends) x y) (squares_flips_below line ends x y l)
            ∙ (swept.has_squares x y
            ∙ (ap (λ k. inside (counted k (times_up_to swept.past_second x y))) (sym (counts_below swept.past_first first_now x y l a.on))
            ∙ ap (λ k. inside (counted (times_up_to (swept.past_first ++ first_now) x y) k)) (sym (counts_below swept.past_second second_now x y l b.on)))))
            (λ l.
            let old : squares out x y ≡ inside (value_from none row x) =
            swept.has_squares x y
            ∙ (ap (λ k. inside (counted k (times_up_to swept.past_second x y))) (up_to_all swept.past_first x y (up_to y swept.past_first l below.1))
            ∙ (ap (λ k. inside (counted (times swept.past_first x) k)) (up_to_all swept.past_second x y (up_to y swept.past_second l below.2))
            ∙ ap inside (sym (swept.values x)))) in
            ap (λ q. exactly_one q (squares (flips_of line ends) x y)) old
            ∙ (ap (exactly_one (inside (value_from none row x))) (squares_flips_above line ends x y l ∙ new_flips x)
            ∙ (changed (inside (value_from none row x)) (inside (value_from none new_row x))
            ∙ (ap inside (new_values x)
            ∙ (ap (λ k. inside (counted k (times (swept.past_second ++ second_now) x))) (sym (counts_above swept.past_first first_now x y l below.1 a.on))
            ∙ ap (λ k. inside (counted (times_up_to (swept.past_first ++ first_now) x y) k)) (sym (counts_above swept.past_second second_now x y l below.2 b.on))))))))

        below_later : (g : Flip) → line <ℤ g.y → AreBelow g.y new_out × AreBelow g.y (swept.past_first ++ first_now) × AreBelow g.y (swept.past_second ++ second_now)
        below_later g l = (
          subst (AreBelow g.y) (sym went_out) (all_append (λ f. f.y <ℤ g.y) out (flips_of line ends) (below_up line g.y out (omega (arith, ints)) below.0) (below_flips line g.y ends l)),
          all_append (λ f. f.y <ℤ g.y) swept.past_first first_now (below_up line g.y swept.past_first (omega (arith, ints)) below.1) (all_weaker (λ f. f.y ≡ line) (λ f. f.y <ℤ g.y) (λ f k. omega (arith, ints)) first_now a.on),
          all_append (λ f. f.y <ℤ g.y) swept.past_second second_now (below_up line g.y swept.past_second (omega (arith, ints)) below.2) (all_weaker (λ f. f.y ≡ line) (λ f. f.y <ℤ g.y) (λ f k. omega (arith, ints)) second_now b.on),
        )

        pub passed : IsSwept (sweep inside counted none first second) (reached new_row new_out first_later second_later)
        passed = record {
          past_first = swept.past_first ++ first_now;
          past_second = swept.past_second ++ second_now;
          is_first = append_assoc swept.past_first first_now first_later ∙ (ap (λ fs. swept.past_first ++ fs) a.parts ∙ swept.is_first);
          is_second = append_assoc swept.past_second second_now second_later ∙ (ap (λ fs. swept.past_second ++ fs) b.parts ∙ swept.is_second);
          values = new_values;
          has_squares = new_squares;
          odd = new_odd;
          sorted = subst AreSorted (sym went_out) (sorted_join line out (flips_of line ends) swept.sorted below.0 (on_line line ends) (sorted_flips line ends ascend));
          below_first = all_weaker (λ f. line <ℤ f.y) (λ g. AreBelow g.y new_out × AreBelow g.y (swept.past_first ++ first_now) × AreBelow g.y (swept.past_second ++ second_now)) below_later first_later a.above;
          below_second = all_weaker (λ f. line <ℤ f.y) (λ g. AreBelow g.y new_out × AreBelow g.y (swept.past_first ++ first_now) × AreBelow g.y (swept.past_second ++ second_now)) below_later second_later b.above;
        }

  -- where nothing is left
  module _ (row : List (Entry V)) (out left_first left_second : List Flip) (swept : IsSwept (sweep inside counted none first second) (reached row out left_first left_second)) (ended : None ≡ lower_line left_first left_second) where
    all_first : swept.past_first ≡ first
    all_first = sym (append-nil swept.past_first) ∙ (ap (λ fs. swept.past_first ++ fs) (sym (no_line left_first left_second ended).0) ∙ swept.is_first)

    all_second : swept.past_second ≡ second
    all_second = sym (append-nil swept.past_second) ∙ (ap (λ fs. swept.past_second ++ fs) (sym (no_line left_first left_second ended).1) ∙ swept.is_second)

    pub end_squares : (x y : ℤ) → squares out x y ≡ inside (counted (times_up_to first x y) (times_up_to second x y))
    end_squares x y = swept.has_squares x y ∙ (ap (λ fs. inside (counted (times_up_to fs x y) (times_up_to swept.past_second x y))) all_first ∙ ap (λ fs. inside (counted (times_up_to first x y) (times_up_to fs x y))) all_second)

    pub end_region : ((x : ℤ) → inside (counted (times first x) (times second x)) ≡ false) → IsRegion out
    end_region closed = record {
      sorted = swept.sorted;
      closed = λ x. swept.odd x ∙ (ap (λ fs. inside (counted (times fs x) (times swept.past_second x))) all_first ∙ (ap (λ fs. inside (counted (times first x) (times fs x))) all_second ∙ closed x));
    }
