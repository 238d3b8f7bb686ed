-- What changes on one line: the flips that a climb passes there, and those that a builder adds.
use Rattle.std.proofs.Common.{◌≡◌, false, ◌&&◌, cond, inl, inr, ℕ, ◌+◌, ◌<◌, ◌≤◌, length, drop, get_or, pos, ℤ, ◌<ℤ◌, ◌≤ℤ◌, ◌+ℤ◌, int_le, List, [], ◌∷◌, ◌++◌, refl, sym, subst, ap, ◌∙◌, arith}
use Rattle.std.proofs.lemmas.Int.{ints, by_lt_z}
use Rattle.std.proofs.lemmas.List.{drop_more}
use Rattle.list_facts.proofs.EitherOr.{one_assoc}
use Rattle.list_facts.proofs.Tests.{and_known, le_false, le_true}
use Rattle.list_facts.specs.EitherOr.{exactly_one}
use Rattle.interval_row.specs.declared.span.Span.{Span}
use Rattle.interval_row.specs.Rows.{has, BeginsAbove, IsRow}
use Rattle.region_form.specs.declared.flip.Flip.{Flip}
use Rattle.region_form.specs.Flips.{changes, squares, is_odd, StandsBeforeFirst, AreSorted, AreBelow}
use Rattle.region_form.specs.Climbs.{flips_above}
use Rattle.region_form.specs.Working.Changes.{spans_up_to}
use Rattle.region_form.specs.LineFlips.{flips_on}
use Rattle.region_form.proofs.LineFlips.{sorted_on, first_or_rest}
use Rattle.region_form.proofs.FlipLines.{StandsFrom, from_rest, above_below, above_above}

-- the columns that a flip changes
abbrev pub span_of : Flip → Span
span_of f = record { lo = f.x0; hi = f.x1 }

-- the first flip lies on or below the line, or above it
pub spans_below : (line : ℤ) (f : Flip) (fs : List Flip) → f.y ≤ℤ line → spans_up_to line (f ∷ fs) ≡ span_of f ∷ spans_up_to line fs
spans_below line f fs h = ap (λ b. cond b (span_of f ∷ spans_up_to line fs) []) (le_true f.y line h)

pub spans_above : (line : ℤ) (f : Flip) (fs : List Flip) → line <ℤ f.y → spans_up_to line (f ∷ fs) ≡ []
spans_above line f fs h = ap (λ b. cond b (span_of f ∷ spans_up_to line fs) []) (le_false f.y line h)

-- the spans of a line are a row
begins_next : (line : ℤ) (f : Flip) (fs : List Flip) → StandsBeforeFirst f fs → line ≤ℤ f.y → BeginsAbove f.x1 (spans_up_to line fs)
begins_next line f [] s h = tt
begins_next line f (g ∷ gs) s h =
    by_lt_z line g.y
    (λ l. subst (BeginsAbove f.x1) (sym (spans_above line g gs l)) tt)
    (λ l. subst (BeginsAbove f.x1) (sym (spans_below line g gs l)) (elim s [ inl k ↦ absurd (omega (arith, ints)) | inr e ↦ e.1 ]))

pub spans_row : (line : ℤ) (fs : List Flip) → AreSorted fs → StandsFrom line fs → IsRow (spans_up_to line fs)
spans_row line [] s h = tt
spans_row line (f ∷ fs) s h =
    by_lt_z line f.y
    (λ l. subst IsRow (sym (spans_above line f fs l)) tt)
    (λ l. subst IsRow (sym (spans_below line f fs l)) (s.0, begins_next line f fs s.1 h, spans_row line fs s.2 (from_rest line f fs s.1 h)))

-- the flips that are passed, and those that are left
pub is_odd_passed : (line : ℤ) (fs : List Flip) (x : ℤ) → AreSorted fs → StandsFrom line fs → is_odd fs x ≡ exactly_one (has (spans_up_to line fs) x) (is_odd (flips_above line fs) x)
is_odd_passed line [] x s h = refl
is_odd_passed line (f ∷ fs) x s h =
    by_lt_z line f.y
    (λ l.
    let e : exactly_one (has (spans_up_to line (f ∷ fs)) x) (is_odd (flips_above line (f ∷ fs)) x) ≡ exactly_one false (is_odd (f ∷ fs) x) = ap (λ ss. exactly_one (has ss x) (is_odd (flips_above line (f ∷ fs)) x)) (spans_above line f fs l) ∙ ap (λ gs. exactly_one false (is_odd gs x)) (above_above line f fs l) in
    sym e)
    (λ l.
    let ss = spans_up_to line fs in
    let gs = flips_above line fs in
    let i = is_odd_passed line fs x s.2 (from_rest line f fs s.1 h) in
    let r : IsRow (span_of f ∷ ss) = subst IsRow (spans_below line f fs l) (spans_row line (f ∷ fs) s h) in
    ap (exactly_one (changes f x)) i
    ∙ (one_assoc (changes f x) (has ss x) (is_odd gs x)
    ∙ (ap (λ p. exactly_one p (is_odd gs x)) (sym (first_or_rest (span_of f) ss x r))
    ∙ (ap (λ ts. exactly_one (has ts x) (is_odd gs x)) (sym (spans_below line f fs l))
    ∙ ap (λ ts. exactly_one (has (spans_up_to line (f ∷ fs)) x) (is_odd ts x)) (sym (above_below line f fs l))))))

-- one more flip of the line
pub next_span : (line : ℤ) (fs : List Flip) (row : List Span) (i : ℕ) (d : Flip) → i < length fs → row ++ spans_up_to line (drop i fs) ≡ spans_up_to line fs → (get_or fs i d).y ≤ℤ line → row ++ (span_of (get_or fs i d) ∷ spans_up_to line (drop (i + 1) fs)) ≡ spans_up_to line fs
next_span line fs row i d l e h =
    let f = get_or fs i d in
    ap (λ ts. row ++ ts) (sym (spans_below line f (drop (i + 1) fs) h)) ∙ (ap (λ gs. row ++ spans_up_to line gs) (sym (drop_more fs i d l)) ∙ e)

pub next_span_row : (line : ℤ) (fs : List Flip) (row : List Span) (i : ℕ) (d : Flip) → i < length fs → IsRow (spans_up_to line fs) → row ++ spans_up_to line (drop i fs) ≡ spans_up_to line fs → (get_or fs i d).y ≤ℤ line → IsRow (row ++ (span_of (get_or fs i d) ∷ spans_up_to line (drop (i + 1) fs)))
next_span_row line fs row i d l r e h = subst IsRow (sym (next_span line fs row i d l e h)) r

pub squares_passed : (line : ℤ) (fs : List Flip) (x y : ℤ) → AreSorted fs → StandsFrom line fs → line ≤ℤ y → squares fs x y ≡ exactly_one (has (spans_up_to line fs) x) (squares (flips_above line fs) x y)
squares_passed line [] x y s h k = refl
squares_passed line (f ∷ fs) x y s h k =
    by_lt_z line f.y
    (λ l.
    let e : exactly_one (has (spans_up_to line (f ∷ fs)) x) (squares (flips_above line (f ∷ fs)) x y) ≡ exactly_one false (squares (f ∷ fs) x y) = ap (λ ss. exactly_one (has ss x) (squares (flips_above line (f ∷ fs)) x y)) (spans_above line f fs l) ∙ ap (λ gs. exactly_one false (squares gs x y)) (above_above line f fs l) in
    sym e)
    (λ l.
    let ss = spans_up_to line fs in
    let gs = flips_above line fs in
    let i = squares_passed line fs x y s.2 (from_rest line f fs s.1 h) k in
    let r : IsRow (span_of f ∷ ss) = subst IsRow (spans_below line f fs l) (spans_row line (f ∷ fs) s h) in
    let c : (int_le f.y y && changes f x) ≡ changes f x = and_known (int_le f.y y) (changes f x) (le_true f.y y (omega (arith, ints))) in
    ap (λ p. exactly_one p (squares fs x y)) c
    ∙ (ap (exactly_one (changes f x)) i
    ∙ (one_assoc (changes f x) (has ss x) (squares gs x y)
    ∙ (ap (λ p. exactly_one p (squares gs x y)) (sym (first_or_rest (span_of f) ss x r))
    ∙ (ap (λ ts. exactly_one (has ts x) (squares gs x y)) (sym (spans_below line f fs l))
    ∙ ap (λ ts. exactly_one (has (spans_up_to line (f ∷ fs)) x) (squares ts x y)) (sym (above_below line f fs l)))))))

-- as many flips are passed as there are spans
pub drop_passed : (line : ℤ) (fs : List Flip) → drop (length (spans_up_to line fs)) fs ≡ flips_above line fs
drop_passed line [] = refl
drop_passed line (f ∷ fs) =
    by_lt_z line f.y
    (λ l. ap (λ ss. drop (length ss) (f ∷ fs)) (spans_above line f fs l) ∙ sym (above_above line f fs l))
    (λ l. ap (λ ss. drop (length ss) (f ∷ fs)) (spans_below line f fs l) ∙ (drop_passed line fs ∙ sym (above_below line f fs l)))

pub passed_within : (line : ℤ) (fs : List Flip) → length (spans_up_to line fs) ≤ length fs
passed_within line [] = omega arith
passed_within line (f ∷ fs) =
    by_lt_z line f.y
    (λ l. subst (λ ss. length ss ≤ length (f ∷ fs)) (sym (spans_above line f fs l)) (omega arith))
    (λ l. subst (λ ss. length ss ≤ length (f ∷ fs)) (sym (spans_below line f fs l)) (omega (arith, passed_within line fs)))

-- flips on one line
stands_append : (line : ℤ) (f : Flip) (fs : List Flip) (ss : List Span) → f.y <ℤ line → StandsBeforeFirst f fs → StandsBeforeFirst f (fs ++ flips_on line ss)
stands_append line f [] [] h s = tt
stands_append line f [] (t ∷ ts) h s = inl h
stands_append line f (g ∷ gs) ss h s = s

-- flips on a line above all others
pub sorted_append : (line : ℤ) (fs : List Flip) (ss : List Span) → AreSorted fs → AreBelow line fs → IsRow ss → AreSorted (fs ++ flips_on line ss)
sorted_append line [] ss s b r = sorted_on line ss r
sorted_append line (f ∷ fs) ss s b r =
    (s.0, stands_append line f fs ss b.0 s.1, sorted_append line fs ss s.2 b.1 r)

below_on : (line : ℤ) (ss : List Span) → AreBelow (line +ℤ pos 1) (flips_on line ss)
below_on line [] = tt
below_on line (s ∷ ss) = (omega (arith, ints), below_on line ss)

pub below_append : (line : ℤ) (fs : List Flip) (ss : List Span) → AreBelow line fs → AreBelow (line +ℤ pos 1) (fs ++ flips_on line ss)
below_append line [] ss b = below_on line ss
below_append line (f ∷ fs) ss b = let k : f.y <ℤ line = b.0 in (omega (arith, ints), below_append line fs ss b.1)
