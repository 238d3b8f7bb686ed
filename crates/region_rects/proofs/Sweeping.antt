-- A sweep to the right: the rectangles that have ended and the stretches that have begun have the squares so far.
use Rattle.std.proofs.Common.{◌≡◌, inl, inr, Bool, true, false, not, ◌&&◌, ◌||◌, cond, ℤ, ◌<ℤ◌, ◌≤ℤ◌, int_le, int_lt, List, [], ◌∷◌, ◌++◌, refl, sym, subst, ap, ◌∙◌, arith}
use Rattle.std.proofs.lemmas.Int.{ints, by_lt_z}
use mathlib.Core.Bool.{true≢false}
use Rattle.std.specs.List.{AllByRecursion}
use Rattle.list_facts.specs.Between.{between}
use Rattle.list_facts.specs.EitherOr.{exactly_one}
use Rattle.list_facts.proofs.EitherOr.{one_right_false}
use Rattle.list_facts.proofs.Members.{all_append, all_weaker}
use Rattle.list_facts.proofs.Tests.{and_false, and_known, and_right_known, between_before, between_past, between_true, clash, le_false, le_true, lt_false, lt_true, or_known, or_right_known}
use Rattle.drc_geom.specs.declared.rect.Rect.{Rect}
use Rattle.drc_geom.specs.Squares.{IsRect, covered, squares_of}
use Rattle.row_state.specs.declared.piece.Piece.{Piece}
use Rattle.row_state.specs.declared.entry.Entry.{Entry}
use Rattle.row_state.specs.Entries.{value_from}
use Rattle.row_state.specs.Pieces.{Tile}
use Rattle.region_form.specs.declared.flip.Flip.{Flip}
use Rattle.region_form.specs.Flips.{changes, squares}
use Rattle.region_form.proofs.FlipOrder.{all_nearer, far_end}
use Rattle.region_form.proofs.Parity.{squares_append}
use Rattle.region_rects.specs.Working.Orders.{LiesBehind}
use Rattle.region_rects.specs.declared.stretch.Stretch.{Stretch}
use Rattle.region_rects.specs.declared.stretch.Stretch.TheVariants.{None, From}
use Rattle.region_rects.specs.Disjoint.{AreDisjoint}
use Rattle.region_rects.specs.Working.Stretches.{BeganUpTo, ended, ended_one, has_begun, passed}
use Rattle.drc_geom.proofs.Covered.{covered_append}

-- ---- the rectangles of pieces

one_has : (line y0 y1 : ℤ) (v : Stretch) (x y : ℤ) → covered (ended_one line y0 y1 v) x y ≡ ((has_begun v x && int_lt x line) && between y0 y1 y)
one_has line y0 y1 None x y = refl
one_has line y0 y1 (From a) x y =
    let r : Rect = record { x0 = a; y0 = y0; x1 = line; y1 = y1 } in
    by_lt_z a line
    (λ l. ap (λ b. covered (cond b (r ∷ []) []) x y) (lt_true a line l) ∙ or_right_known (squares_of r x y) false refl)
    (λ l.
    ap (λ b. covered (cond b (r ∷ []) []) x y) (lt_false a line l)
    ∙ sym (ap (λ b. b && between y0 y1 y) (by_lt_z x a (λ m. between_before a line x m) (λ m. between_past a line x (omega (arith, ints))))))

pub ends_within : (values : ℤ → Stretch) (x0 x1 : ℤ) (ps : List (Piece Stretch)) → Tile values x0 x1 ps → x0 ≤ℤ x1
ends_within values x0 x1 [] t = let e : x0 ≡ x1 = t in omega (arith, ints)
ends_within values x0 x1 (p ∷ ps) t = let w : x0 <ℤ p.x1 = t.1 in let k = ends_within values p.x1 x1 ps t.3 in omega (arith, ints)

-- in the rows of the pieces the stretches that have begun end
pub ended_have : (line : ℤ) (values : ℤ → Stretch) (y0 y1 : ℤ) (ps : List (Piece Stretch)) (x y : ℤ) → Tile values y0 y1 ps → covered (ended line ps) x y ≡ (between y0 y1 y && (has_begun (values y) x && int_lt x line))
ended_have line values y0 y1 [] x y t =
    let e : y0 ≡ y1 = t in
    sym (ap (λ b. b && (has_begun (values y) x && int_lt x line)) (by_lt_z y y0 (λ q. between_before y0 y1 y q) (λ q. between_past y0 y1 y (subst (λ z. z ≤ℤ y) e q))))
ended_have line values y0 y1 (p ∷ ps) x y t =
    let e : p.x0 ≡ y0 = t.0 in
    let w : y0 <ℤ p.x1 = t.1 in
    let m : p.x1 ≤ℤ y1 = ends_within values p.x1 y1 ps t.3 in
    let old = has_begun p.old x && int_lt x line in
    let now = has_begun (values y) x && int_lt x line in
    covered_append (ended_one line p.x0 p.x1 p.old) (ended line ps) x y
    ∙ (ap (λ v. v || covered (ended line ps) x y) (one_has line p.x0 p.x1 p.old x y)
    ∙ (ap (λ v. (old && between p.x0 p.x1 y) || v) (ended_have line values p.x1 y1 ps x y t.3)
    ∙ by_lt_z y y0
    (λ q.
    or_known (old && between p.x0 p.x1 y) (between p.x1 y1 y && now) (ap (λ b. old && b) (between_before p.x0 p.x1 y (omega (arith, ints))) ∙ and_false old)
    ∙ ap (λ b. b && now) (between_before p.x1 y1 y (omega (arith, ints)) ∙ sym (between_before y0 y1 y q)))
    (λ q. by_lt_z y p.x1
    (λ n.
    or_right_known (old && between p.x0 p.x1 y) (between p.x1 y1 y && now) (ap (λ b. b && now) (between_before p.x1 y1 y n))
    ∙ (and_right_known old (between p.x0 p.x1 y) (between_true p.x0 p.x1 y (omega (arith, ints)) n)
    ∙ (ap (λ v. has_begun v x && int_lt x line) (sym (t.2 y q n))
    ∙ sym (and_known (between y0 y1 y) now (between_true y0 y1 y q (omega (arith, ints)))))))
    (λ n.
    or_known (old && between p.x0 p.x1 y) (between p.x1 y1 y && now) (ap (λ b. old && b) (between_past p.x0 p.x1 y n) ∙ and_false old)
    ∙ by_lt_z y y1
    (λ k. ap (λ b. b && now) (between_true p.x1 y1 y n k ∙ sym (between_true y0 y1 y q k)))
    (λ k. ap (λ b. b && now) (between_past p.x1 y1 y k ∙ sym (between_past y0 y1 y k)))))))

-- ---- rectangles that don't overlap

joined : (p q s : Bool) → (p && q) ≡ false → ((p || q) && s) ≡ false → (p && (q || s)) ≡ false
joined true true s e f = e
joined true false s e f = f
joined false q s e f = refl

right_part : (p q s : Bool) → ((p || q) && s) ≡ false → (q && s) ≡ false
right_part true true s e = e
right_part true false s e = refl
right_part false q s e = e

disjoint_append : (a b : List Rect) → AreDisjoint a → AreDisjoint b → ((x y : ℤ) → (covered a x y && covered b x y) ≡ false) → AreDisjoint (a ++ b)
disjoint_append [] b p q e = q
disjoint_append (r ∷ a) b p q e = (
  λ x y. ap (λ v. squares_of r x y && v) (covered_append a b x y) ∙ joined (squares_of r x y) (covered a x y) (covered b x y) (p.0 x y) (e x y),
  disjoint_append a b p.1 q (λ x y. right_part (squares_of r x y) (covered a x y) (covered b x y) (e x y)),
)

one_disjoint : (line y0 y1 : ℤ) (v : Stretch) → AreDisjoint (ended_one line y0 y1 v)
one_disjoint line y0 y1 None = tt
one_disjoint line y0 y1 (From a) = by_case (int_lt a line)
  where
    by_case : (b : Bool) → AreDisjoint (cond b (record { x0 = a; y0 = y0; x1 = line; y1 = y1 } ∷ []) [])
    by_case true = (λ x y. and_false (between a line x && between y0 y1 y), tt)
    by_case false = tt

pub ended_disjoint : (line : ℤ) (values : ℤ → Stretch) (y0 y1 : ℤ) (ps : List (Piece Stretch)) → Tile values y0 y1 ps → AreDisjoint (ended line ps)
ended_disjoint line values y0 y1 [] t = tt
ended_disjoint line values y0 y1 (p ∷ ps) t =
    disjoint_append (ended_one line p.x0 p.x1 p.old) (ended line ps) (one_disjoint line p.x0 p.x1 p.old) (ended_disjoint line values p.x1 y1 ps t.3)
    (λ x y.
    ap (λ v. v && covered (ended line ps) x y) (one_has line p.x0 p.x1 p.old x y)
    ∙ (ap (λ v. ((has_begun p.old x && int_lt x line) && between p.x0 p.x1 y) && v) (ended_have line values p.x1 y1 ps x y t.3)
    ∙ by_lt_z y p.x1
    (λ l.
    ap (λ v. ((has_begun p.old x && int_lt x line) && between p.x0 p.x1 y) && (v && (has_begun (values y) x && int_lt x line))) (between_before p.x1 y1 y l)
    ∙ and_false ((has_begun p.old x && int_lt x line) && between p.x0 p.x1 y))
    (λ l.
    ap (λ v. v && (between p.x1 y1 y && (has_begun (values y) x && int_lt x line))) (ap (λ v. (has_begun p.old x && int_lt x line) && v) (between_past p.x0 p.x1 y l) ∙ and_false (has_begun p.old x && int_lt x line)))))

-- what ended and what has begun have no square in common, before a line and behind it
crossed : (cov c h l : Bool) → (cov && h) ≡ false → (cov && (c && (h && l))) ≡ false
crossed true true true l e = absurd (true≢false e)
crossed true true false l e = refl
crossed true false h l e = refl
crossed false c h l e = refl

apart_other : (cov h l : Bool) → (cov && h) ≡ false → ((cov || (false && (h && l))) && h) ≡ false
apart_other true h l e = e
apart_other false h l e = refl

apart_line : (line x : ℤ) (v : Stretch) (cov : Bool) → (line ≤ℤ x → cov ≡ false) → ((cov || (has_begun v x && int_lt x line)) && has_begun (passed line v) x) ≡ false
apart_line line x (From a) cov f = and_false (cov || (int_le a x && int_lt x line))
apart_line line x None cov f =
    by_lt_z x line
    (λ l. ap (λ b. (cov || false) && b) (le_false line x l) ∙ and_false (cov || false))
    (λ l. ap (λ b. (b || false) && int_le line x) (f l))

-- ---- one more flip

abbrev pub EndUpTo : ℤ → List Rect → Type 0
EndUpTo line = AllByRecursion (λ r. r.x1 ≤ℤ line)

abbrev pub LieUpTo : ℤ → List Flip → Type 0
LieUpTo line = AllByRecursion (λ g. g.y ≤ℤ line)

pub record IsSwept (past : List Flip) (row : List (Entry Stretch)) (rects : List Rect) : Type 0 where
  pub has : (x y : ℤ) → squares past y x ≡ (covered rects x y || has_begun (value_from None row y) x)
  pub end_up_to : (line : ℤ) → LieUpTo line past → EndUpTo line rects
  pub began_up_to : (line : ℤ) → LieUpTo line past → (y : ℤ) → BeganUpTo line (value_from None row y)
  pub are_rects : AllByRecursion IsRect rects
  pub disjoint : AreDisjoint rects
  pub apart : (x y : ℤ) → (covered rects x y && has_begun (value_from None row y) x) ≡ false

pub swept_start : IsSwept [] [] []
swept_start = record { has = λ x y. refl; end_up_to = λ line a. tt; began_up_to = λ line a y. tt; are_rects = tt; disjoint = tt; apart = λ x y. refl }

no_higher : (f g : Flip) → LiesBehind g f → g.y ≤ℤ f.y
no_higher f g b = elim b [ inl l ↦ omega (arith, ints) | inr e ↦ let q : g.y ≡ f.y = e.0 in omega (arith, ints) ]

pub none_past_end : (rs : List Rect) (line x y : ℤ) → EndUpTo line rs → line ≤ℤ x → covered rs x y ≡ false
none_past_end [] line x y a h = refl
none_past_end (r ∷ rs) line x y a h =
    let k : r.x1 ≤ℤ line = a.0 in
    ap (λ v. (v && between r.y0 r.y1 y) || covered rs x y) (between_past r.x0 r.x1 x (omega (arith, ints))) ∙ none_past_end rs line x y a.1 h

one_ends : (line y0 y1 : ℤ) (v : Stretch) → EndUpTo line (ended_one line y0 y1 v)
one_ends line y0 y1 None = tt
one_ends line y0 y1 (From a) = by_case (int_lt a line)
  where
    by_case : (b : Bool) → EndUpTo line (cond b (record { x0 = a; y0 = y0; x1 = line; y1 = y1 } ∷ []) [])
    by_case true = (omega (arith, ints), tt)
    by_case false = tt

all_end : (line : ℤ) (ps : List (Piece Stretch)) → EndUpTo line (ended line ps)
all_end line [] = tt
all_end line (p ∷ ps) = all_append (λ r. r.x1 ≤ℤ line) (ended_one line p.x0 p.x1 p.old) (ended line ps) (one_ends line p.x0 p.x1 p.old) (all_end line ps)

one_rect : (line y0 y1 : ℤ) (v : Stretch) → y0 <ℤ y1 → AllByRecursion IsRect (ended_one line y0 y1 v)
one_rect line y0 y1 None h = tt
one_rect line y0 y1 (From a) h =
    by_lt_z a line
    (λ l. subst (λ b. AllByRecursion IsRect (cond b (record { x0 = a; y0 = y0; x1 = line; y1 = y1 } ∷ []) [])) (sym (lt_true a line l)) (record { wide = l; high = h }, tt))
    (λ l. subst (λ b. AllByRecursion IsRect (cond b (record { x0 = a; y0 = y0; x1 = line; y1 = y1 } ∷ []) [])) (sym (lt_false a line l)) tt)

all_rects : (line : ℤ) (values : ℤ → Stretch) (y0 y1 : ℤ) (ps : List (Piece Stretch)) → Tile values y0 y1 ps → AllByRecursion IsRect (ended line ps)
all_rects line values y0 y1 [] t = tt
all_rects line values y0 y1 (p ∷ ps) t =
    let e : p.x0 ≡ y0 = t.0 in
    let w : y0 <ℤ p.x1 = t.1 in
    all_append IsRect (ended_one line p.x0 p.x1 p.old) (ended line ps) (one_rect line p.x0 p.x1 p.old (omega (arith, ints))) (all_rects line values p.x1 y1 ps t.3)

-- what a line changes in a row of the flip, and in another
in_other_row : (line x : ℤ) (v : Stretch) (c cov : Bool) → c ≡ false → exactly_one (cov || has_begun v x) (int_le line x && c) ≡ ((cov || (c && (has_begun v x && int_lt x line))) || has_begun (cond c (passed line v) v) x)
in_other_row line x v true cov e = clash true refl e
in_other_row line x v false cov e =
    ap (exactly_one (cov || has_begun v x)) (and_false (int_le line x))
    ∙ (one_right_false (cov || has_begun v x) ∙ ap (λ b. b || has_begun v x) (sym (or_right_known cov false refl)))

before_line : (line x : ℤ) (v : Stretch) (cov : Bool) → x <ℤ line → exactly_one (cov || has_begun v x) (int_le line x && true) ≡ ((cov || (has_begun v x && int_lt x line)) || has_begun (passed line v) x)
before_line line x None cov l =
    ap (λ b. exactly_one (cov || false) (b && true)) (le_false line x l)
    ∙ (one_right_false (cov || false)
    ∙ sym (or_right_known (cov || false) (int_le line x) (le_false line x l)))
before_line line x (From a) cov l =
    ap (λ b. exactly_one (cov || int_le a x) (b && true)) (le_false line x l)
    ∙ (one_right_false (cov || int_le a x)
    ∙ (ap (λ b. cov || b) (sym (and_right_known (int_le a x) (int_lt x line) (lt_true x line l)))
    ∙ sym (or_right_known (cov || (int_le a x && int_lt x line)) false refl)))

from_line : (line x : ℤ) (v : Stretch) (cov : Bool) → line ≤ℤ x → cov ≡ false → BeganUpTo line v → exactly_one (cov || has_begun v x) (int_le line x && true) ≡ ((cov || (has_begun v x && int_lt x line)) || has_begun (passed line v) x)
from_line line x None cov l e b =
    ap (λ c. exactly_one (c || false) (int_le line x && true)) e
    ∙ (and_right_known (int_le line x) true refl ∙ ap (λ c. (c || false) || int_le line x) (sym e))
from_line line x (From a) cov l e b =
    ap (λ c. exactly_one (c || int_le a x) (int_le line x && true)) e
    ∙ (ap (λ c. exactly_one c (int_le line x && true)) (le_true a x (let k : a ≤ℤ line = b in omega (arith, ints)))
    ∙ (ap (λ c. not (c && true)) (le_true line x l)
    ∙ sym (ap (λ c. (c || (int_le a x && int_lt x line)) || false) e ∙ (ap (λ c. (int_le a x && c) || false) (lt_false x line l) ∙ ap (λ c. c || false) (and_false (int_le a x))))))

began_later : (line now : ℤ) (c : Bool) (v : Stretch) → now ≤ℤ line → BeganUpTo line v → BeganUpTo line (cond c (passed now v) v)
began_later line now true None h b = h
began_later line now true (From a) h b = tt
began_later line now false v h b = b

all_left : (P : Flip → Type 0) (xs ys : List Flip) → AllByRecursion P (xs ++ ys) → AllByRecursion P xs × AllByRecursion P ys
all_left P [] ys a = (tt, a)
all_left P (x ∷ xs) ys a = let rest = all_left P xs ys a.1 in ((a.0, rest.0), rest.1)

module _ (past : List Flip) (f : Flip) (row next : List (Entry Stretch)) (ps : List (Piece Stretch)) (behind : AllByRecursion (λ g. LiesBehind g f) past) (tiles : Tile (value_from None row) f.x0 f.x1 ps) (changed : (y : ℤ) → value_from None next y ≡ cond (between f.x0 f.x1 y) (passed f.y (value_from None row y)) (value_from None row y)) where
  lower : LieUpTo f.y past
  lower = all_weaker (λ g. LiesBehind g f) (λ g. g.y ≤ℤ f.y) (no_higher f) past behind

  squares_more : (x y : ℤ) → squares (past ++ f ∷ []) y x ≡ exactly_one (squares past y x) (int_le f.y x && changes f y)
  squares_more x y = squares_append past (f ∷ []) y x ∙ ap (exactly_one (squares past y x)) (one_right_false (int_le f.y x && changes f y))

  in_row : (x y : ℤ) (rects : List Rect) (c : Bool) → c ≡ between f.x0 f.x1 y → IsSwept past row rects → exactly_one (covered rects x y || has_begun (value_from None row y) x) (int_le f.y x && c) ≡ ((covered rects x y || (c && (has_begun (value_from None row y) x && int_lt x f.y))) || has_begun (cond c (passed f.y (value_from None row y)) (value_from None row y)) x)
  in_row x y rects true e s =
      by_lt_z x f.y
      (λ l. before_line f.y x (value_from None row y) (covered rects x y) l)
      (λ l. from_line f.y x (value_from None row y) (covered rects x y) l (none_past_end rects f.y x y (s.end_up_to f.y lower) l) (s.began_up_to f.y lower y))
  in_row x y rects false e s = in_other_row f.y x (value_from None row y) false (covered rects x y) refl

  in_apart : (x y : ℤ) (rects : List Rect) (c : Bool) → IsSwept past row rects → ((covered rects x y || (c && (has_begun (value_from None row y) x && int_lt x f.y))) && has_begun (cond c (passed f.y (value_from None row y)) (value_from None row y)) x) ≡ false
  in_apart x y rects true s = apart_line f.y x (value_from None row y) (covered rects x y) (λ l. none_past_end rects f.y x y (s.end_up_to f.y lower) l)
  in_apart x y rects false s = apart_other (covered rects x y) (has_begun (value_from None row y) x) (int_lt x f.y) (s.apart x y)

  pub swept_step : (rects rects' : List Rect) → rects' ≡ rects ++ ended f.y ps → IsSwept past row rects → IsSwept (past ++ f ∷ []) next rects'
  swept_step rects rects' e s =
      record {
        has = λ x y.
            squares_more x y
            ∙ (ap (λ v. exactly_one v (int_le f.y x && changes f y)) (s.has x y)
            ∙ (in_row x y rects (between f.x0 f.x1 y) refl s
            ∙ (ap (λ v. (covered rects x y || v) || has_begun (cond (between f.x0 f.x1 y) (passed f.y (value_from None row y)) (value_from None row y)) x) (sym (ended_have f.y (value_from None row) f.x0 f.x1 ps x y tiles))
            ∙ (ap (λ v. v || has_begun (cond (between f.x0 f.x1 y) (passed f.y (value_from None row y)) (value_from None row y)) x) (sym (covered_append rects (ended f.y ps) x y) ∙ ap (λ rs. covered rs x y) (sym e))
            ∙ ap (λ v. covered rects' x y || has_begun v x) (sym (changed y))))));
        end_up_to = λ line a.
            let parts = all_left (λ g. g.y ≤ℤ line) past (f ∷ []) a in
            let h : f.y ≤ℤ line = parts.1.0 in
            subst (EndUpTo line) (sym e) (all_append (λ r. r.x1 ≤ℤ line) rects (ended f.y ps) (s.end_up_to line parts.0) (all_weaker (λ r. r.x1 ≤ℤ f.y) (λ r. r.x1 ≤ℤ line) (λ r k. omega (arith, ints)) (ended f.y ps) (all_end f.y ps)));
        began_up_to = λ line a y.
            let parts = all_left (λ g. g.y ≤ℤ line) past (f ∷ []) a in
            subst (BeganUpTo line) (sym (changed y)) (began_later line f.y (between f.x0 f.x1 y) (value_from None row y) parts.1.0 (s.began_up_to line parts.0 y));
        are_rects = subst (AllByRecursion IsRect) (sym e) (all_append IsRect rects (ended f.y ps) s.are_rects (all_rects f.y (value_from None row) f.x0 f.x1 ps tiles));
        disjoint =
            subst AreDisjoint (sym e) (disjoint_append rects (ended f.y ps) s.disjoint (ended_disjoint f.y (value_from None row) f.x0 f.x1 ps tiles)
            (λ x y. ap (λ v. covered rects x y && v) (ended_have f.y (value_from None row) f.x0 f.x1 ps x y tiles) ∙ crossed (covered rects x y) (between f.x0 f.x1 y) (has_begun (value_from None row y) x) (int_lt x f.y) (s.apart x y)));
        apart = λ x y.
            ap (λ rs. covered rs x y && has_begun (value_from None next y) x) e
            ∙ (ap (λ v. v && has_begun (value_from None next y) x) (covered_append rects (ended f.y ps) x y)
            ∙ (ap (λ v. (covered rects x y || v) && has_begun (value_from None next y) x) (ended_have f.y (value_from None row) f.x0 f.x1 ps x y tiles)
            ∙ (ap (λ v. (covered rects x y || (between f.x0 f.x1 y && (has_begun (value_from None row y) x && int_lt x f.y))) && has_begun v x) (changed y)
            ∙ in_apart x y rects (between f.x0 f.x1 y) s)));
      }

-- ---- the end

none_far : (fs : List Flip) (x y : ℤ) → AllByRecursion (λ f. f.x1 ≤ℤ x) fs → squares fs x y ≡ false
none_far [] x y a = refl
none_far (f ∷ fs) x y a =
    ap (λ b. exactly_one (int_le f.y y && b) (squares fs x y)) (between_past f.x0 f.x1 x a.0)
    ∙ (ap (λ b. exactly_one b (squares fs x y)) (and_false (int_le f.y y)) ∙ none_far fs x y a.1)

module _ (turned region : List Flip) (row : List (Entry Stretch)) (rects : List Rect) (over : (x y : ℤ) → squares turned y x ≡ squares region x y) (s : IsSwept turned row rects) where
  none_begun : (x y : ℤ) (v : Stretch) → value_from None row y ≡ v → has_begun v x ≡ false
  none_begun x y None e = refl
  none_begun x y (From a) e =
      let at = far_end region a in
      let near = all_nearer region a in
      clash (squares turned y at)
      (s.has at y ∙ (ap (λ v. covered rects at y || has_begun v at) e ∙ (ap (λ b. covered rects at y || b) (le_true a at near.1) ∙ or_right_true (covered rects at y))))
      (over at y ∙ none_far region at y near.0)
    where
      or_right_true : (b : Bool) → (b || true) ≡ true
      or_right_true true = refl
      or_right_true false = refl

  pub all_covered : (x y : ℤ) → covered rects x y ≡ squares region x y
  all_covered x y =
      sym (or_right_known (covered rects x y) (has_begun (value_from None row y) x) (none_begun x y (value_from None row y) refl))
      ∙ (sym (s.has x y) ∙ over x y)
