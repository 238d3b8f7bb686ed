-- A cursor in a row: its next end lies ahead, up to there nothing changes, and past it the rest of the row is ahead.
use Rattle.std.proofs.Common.{◌≡◌, Bool, true, false, cond, ◌||◌, ◌&&◌, ◌⊎◌, inl, inr, ℕ, ◌+◌, ◌<◌, ◌≤◌, length, ℤ, ◌<ℤ◌, ◌≤ℤ◌, int_le, int_lt, Option, None, Some, List, [], ◌∷◌, refl, sym, subst, ◌∙◌, ap, arith}
use Rattle.std.proofs.lemmas.Int.{ints, by_lt_z}
use Rattle.std.specs.Ordering.{int_eq}
use Rattle.std.specs.Cmp.{signed_Decides}
use mathlib.Core.Bool.{true≢false}
use Rattle.std.proofs.lemmas.Bool.{or_left}
use Rattle.std.proofs.lemmas.Option.{same_Some}
use Rattle.list_facts.proofs.Tests.{le_from_true, le_true, lt_false, lt_true, or_known}
use Rattle.interval_row.specs.declared.span.Span.{Span}
use Rattle.interval_row.specs.Rows.{has, BeginsAbove, IsRow}
use Rattle.interval_row.specs.Working.Walk.{next_end, spans_past, inside_past, earlier}
use Rattle.interval_row.proofs.Places.{none_below, begins_down}

-- the places that are ahead of a cursor
abbrev pub ahead : Bool → List Span → ℤ → Bool
ahead false ss x = has ss x
ahead true [] x = false
ahead true (s ∷ ss) x = int_lt x s.hi || has ss x

-- every end that is left lies above place p
abbrev pub IsCursor : ℤ → Bool → List Span → Type 0
IsCursor p false ss = BeginsAbove p ss × IsRow ss
IsCursor p true [] = ⊥
IsCursor p true (s ∷ ss) = (p <ℤ s.hi) × BeginsAbove s.hi ss × IsRow ss

abbrev pub Beyond : ℤ → Option ℤ → Type 0
Beyond p None = Unit {0}
Beyond p (Some e) = p <ℤ e

abbrev pub UpTo : ℤ → Option ℤ → Type 0
UpTo p None = Unit {0}
UpTo p (Some e) = p ≤ℤ e

pub cursor_beyond : (p : ℤ) (i : Bool) (ss : List Span) → IsCursor p i ss → Beyond p (next_end i ss)
cursor_beyond p false [] c = tt
cursor_beyond p false (s ∷ ss) c = c.0
cursor_beyond p true [] c = tt
cursor_beyond p true (s ∷ ss) c = c.0

-- up to the next end a place is in the row exactly if the cursor is inside
pub ahead_still : (p : ℤ) (i : Bool) (ss : List Span) (x : ℤ) → IsCursor p i ss → Beyond x (next_end i ss) → ahead i ss x ≡ i
ahead_still p false [] x c b = refl
ahead_still p false (s ∷ ss) x c b = none_below (s ∷ ss) x c.1 b
ahead_still p true [] x c b = absurd c
ahead_still p true (s ∷ ss) x c b = or_left _ _ (lt_true x s.hi b)

-- past place `at` the cursor stands at (j, ts), and the same places are ahead from there on
pub record Passes (at : ℤ) (i : Bool) (ss : List Span) (j : Bool) (ts : List Span) : Type 0 where
  pub stands : IsCursor at j ts
  pub same : (x : ℤ) → at ≤ℤ x → ahead i ss x ≡ ahead j ts x

not_equal : (a b : ℤ) → int_eq a b ≡ false → a ≡ b → ⊥
not_equal a b e f = true≢false (sym ((signed_Decides a b).1 f) ∙ e)

passes_begin : (at : ℤ) (s : Span) (ss : List Span) (b : Bool) → int_eq s.lo at ≡ b → IsRow (s ∷ ss) → at ≤ℤ s.lo → Passes at false (s ∷ ss) b (s ∷ ss)
passes_begin at s ss true e r u =
    let q : s.lo ≡ at = (signed_Decides s.lo at).0 e in
    let h : s.lo <ℤ s.hi = r.0 in
    record {
      stands = (omega (arith, ints), r.1, r.2);
      same = λ x k. ap (λ v. (v && int_lt x s.hi) || has ss x) (le_true s.lo x (omega (arith, ints)));
    }
passes_begin at s ss false e r u =
    let q = not_equal s.lo at e in
    record { stands = (omega (arith, ints), r); same = λ x k. refl }

passes_finish : (at : ℤ) (s : Span) (ss : List Span) (b : Bool) → int_eq s.hi at ≡ b → BeginsAbove s.hi ss → IsRow ss → at ≤ℤ s.hi → Passes at true (s ∷ ss) (cond b false true) (cond b ss (s ∷ ss))
passes_finish at s ss true e a r u =
    let q : s.hi ≡ at = (signed_Decides s.hi at).0 e in
    record {
      stands = (begins_down at s.hi ss (omega (arith, ints)) a, r);
      same = λ x k. or_known _ _ (lt_false x s.hi (omega (arith, ints)));
    }
passes_finish at s ss false e a r u =
    let q = not_equal s.hi at e in
    record { stands = (omega (arith, ints), a, r); same = λ x k. refl }

pub passes : (p at : ℤ) (i : Bool) (ss : List Span) → IsCursor p i ss → UpTo at (next_end i ss) → Passes at i ss (inside_past at i ss) (spans_past at i ss)
passes p at false [] c u = record { stands = (tt, tt); same = λ x k. refl }
passes p at false (s ∷ ss) c u = passes_begin at s ss (int_eq s.lo at) refl c.1 u
passes p at true [] c u = absurd c
passes p at true (s ∷ ss) c u = passes_finish at s ss (int_eq s.hi at) refl c.1 c.2 u

-- how many ends are left
abbrev pub ends_left : Bool → List Span → ℕ
ends_left i [] = 0
ends_left i (s ∷ ss) = cond i 1 2 + (length ss + length ss)

fewer_begin : (n : ℕ) (b : Bool) → cond b 1 2 + n ≤ 2 + n
fewer_begin n true = omega arith
fewer_begin n false = omega arith

pub all_left : (ss : List Span) → ends_left false ss ≡ length ss + length ss
all_left [] = refl
all_left (s ∷ ss) = omega arith

fewer_finish : (s : Span) (ss : List Span) (b : Bool) → ends_left (cond b false true) (cond b ss (s ∷ ss)) ≤ 1 + (length ss + length ss)
fewer_finish s ss true = omega (arith, all_left ss)
fewer_finish s ss false = omega arith

pub no_more_left : (at : ℤ) (i : Bool) (ss : List Span) → ends_left (inside_past at i ss) (spans_past at i ss) ≤ ends_left i ss
no_more_left at i [] = omega arith
no_more_left at false (s ∷ ss) = fewer_begin (length ss + length ss) (int_eq s.lo at)
no_more_left at true (s ∷ ss) = fewer_finish s ss (int_eq s.hi at)

less_begin : (n : ℕ) (b : Bool) → b ≡ true → cond b 1 2 + n < 2 + n
less_begin n true e = omega arith
less_begin n false e = absurd (true≢false (sym e))

less_finish : (s : Span) (ss : List Span) (b : Bool) → b ≡ true → ends_left (cond b false true) (cond b ss (s ∷ ss)) < 1 + (length ss + length ss)
less_finish s ss true e = omega (arith, all_left ss)
less_finish s ss false e = absurd (true≢false (sym e))

pub fewer_left : (at : ℤ) (i : Bool) (ss : List Span) → next_end i ss ≡ Some at → ends_left (inside_past at i ss) (spans_past at i ss) < ends_left i ss
fewer_left at i [] e = cc
fewer_left at false (s ∷ ss) e = less_begin (length ss + length ss) (int_eq s.lo at) ((signed_Decides s.lo at).1 (same_Some s.lo at e))
fewer_left at true (s ∷ ss) e = less_finish s ss (int_eq s.hi at) ((signed_Decides s.hi at).1 (same_Some s.hi at e))

pub none_left : (p : ℤ) (i : Bool) (ss : List Span) → IsCursor p i ss → next_end i ss ≡ None → (i ≡ false) × (ss ≡ [])
none_left p false [] c e = (refl, refl)
none_left p false (s ∷ ss) c e = cc
none_left p true [] c e = absurd c
none_left p true (s ∷ ss) c e = cc

lower : (x y e : ℤ) (b : Bool) → int_le x y ≡ b → Some (cond b x y) ≡ Some e → (e ≤ℤ x) × (e ≤ℤ y)
lower x y e true t q =
    let h : x ≡ e = same_Some x e q in
    let k : x ≤ℤ y = le_from_true x y t in
    (omega (arith, ints), omega (arith, ints))
lower x y e false t q =
    let h : y ≡ e = same_Some y e q in
    by_lt_z y x (λ l. (omega (arith, ints), omega (arith, ints)))
    (λ l. absurd (true≢false (sym (le_true x y l) ∙ t)))

pub earlier_up : (m n : Option ℤ) (e : ℤ) → earlier m n ≡ Some e → UpTo e m × UpTo e n
earlier_up None None e q = (tt, tt)
earlier_up None (Some y) e q = let h : y ≡ e = same_Some y e q in (tt, omega (arith, ints))
earlier_up (Some x) None e q = let h : x ≡ e = same_Some x e q in (omega (arith, ints), tt)
earlier_up (Some x) (Some y) e q = lower x y e (int_le x y) refl q

one_of : (x y e : ℤ) (b : Bool) → Some (cond b x y) ≡ Some e → (Some x ≡ Some e) ⊎ (Some y ≡ Some e)
one_of x y e true q = inl q
one_of x y e false q = inr q

pub earlier_one : (m n : Option ℤ) (e : ℤ) → earlier m n ≡ Some e → (m ≡ Some e) ⊎ (n ≡ Some e)
earlier_one None n e q = inr q
earlier_one (Some x) None e q = inl q
earlier_one (Some x) (Some y) e q = one_of x y e (int_le x y) q

pub earlier_none : (m n : Option ℤ) → earlier m n ≡ None → (m ≡ None) × (n ≡ None)
earlier_none None n q = (refl, q)
earlier_none (Some x) None q = cc
earlier_none (Some x) (Some y) q = cc

pub earlier_beyond : (p : ℤ) (m n : Option ℤ) (e : ℤ) → Beyond p m → Beyond p n → earlier m n ≡ Some e → p <ℤ e
earlier_beyond p m n e a b q =
    elim (earlier_one m n e q) [ inl h ↦ subst (Beyond p) h a | inr h ↦ subst (Beyond p) h b ]

-- before the earlier end both cursors stand still
pub beyond_earlier : (x e : ℤ) (m : Option ℤ) → x <ℤ e → UpTo e m → Beyond x m
beyond_earlier x e None h u = tt
beyond_earlier x e (Some v) h u = omega (arith, ints)
