-- The rectangles that end on a line are canonical: their rows have equal stretches, and the rows next to them others.
use Rattle.std.proofs.Common.{◌≡◌, inl, inr, Bool, true, false, not, ◌&&◌, ◌||◌, cond, ℕ, zero, suc, ◌+◌, ◌<◌, length, take, get_or, ℤ, pos, ◌-ℤ◌, ◌<ℤ◌, ◌≤ℤ◌, int_le, List, [], ◌∷◌, ◌++◌, refl, sym, subst, ap, ◌∙◌, arith}
use Rattle.std.proofs.lemmas.Int.{ints, by_lt_z}
use Rattle.std.proofs.lemmas.List.{take_more}
use mathlib.Core.Bool.{true≢false}
use Rattle.std.proofs.Math.Bool.{or-true}
use Rattle.std.specs.List.{AllByRecursion}
use Rattle.list_facts.specs.Between.{between}
use Rattle.list_facts.specs.EitherOr.{exactly_one}
use Rattle.list_facts.proofs.EitherOr.{one_right_false}
use Rattle.list_facts.proofs.Members.{all_append, all_weaker}
use Rattle.list_facts.proofs.Tests.{and_false, between_before, between_past, between_true, clash, from_between, le_false, le_true, lt_false, lt_true}
use Rattle.drc_geom.specs.declared.rect.Rect.{Rect}
use Rattle.drc_geom.specs.Squares.{Squares, covered}
use Rattle.row_state.specs.declared.entry.Entry.{Entry}
use Rattle.row_state.specs.declared.piece.Piece.{Piece}
use Rattle.row_state.specs.Entries.{value_from}
use Rattle.row_state.specs.Pieces.{Tile}
use Rattle.region_form.specs.declared.flip.Flip.{Flip}
use Rattle.region_form.specs.Flips.{AreSorted, StandsBefore, changes, squares}
use Rattle.region_form.proofs.FlipOrder.{all_behind}
use Rattle.region_form.proofs.Parity.{squares_append}
use Rattle.region_rects.specs.Working.Orders.{LiesBehind}
use Rattle.region_rects.specs.declared.stretch.Stretch.{Stretch}
use Rattle.region_rects.specs.declared.stretch.Stretch.TheVariants.{None, From}
use Rattle.region_rects.specs.Canonical.{IsCanonical, IsStretch}
use Rattle.region_rects.specs.Working.Joins.{Differ, FirstDiffers}
use Rattle.region_rects.specs.Working.Stretches.{BeganUpTo, ended, ended_one, has_begun, passed}
use Rattle.region_rects.proofs.Sweeping.{IsSwept, LieUpTo, ends_within, none_past_end, swept_start, swept_step}

-- ---- a flip among sorted ones

stands_at : (f : Flip) (gs : List Flip) (k : ℕ) (d : Flip) → k < length gs → AllByRecursion (StandsBefore f) gs → StandsBefore f (get_or gs k d)
stands_at f [] k d l a = absurd (omega arith)
stands_at f (g ∷ gs) zero d l a = a.0
stands_at f (g ∷ gs) (suc k) d l a = stands_at f gs k d (omega arith) a.1

-- the flips before it, and those behind it
pub record IsCut (fs : List Flip) (i : ℕ) (d : Flip) : Type 0 where
  pub rest : List Flip
  pub whole : fs ≡ take i fs ++ get_or fs i d ∷ rest
  pub wide : (get_or fs i d).x0 <ℤ (get_or fs i d).x1
  pub lower : AllByRecursion (λ g. StandsBefore g (get_or fs i d)) (take i fs)
  pub higher : AllByRecursion (StandsBefore (get_or fs i d)) rest

pub cut : (fs : List Flip) (i : ℕ) (d : Flip) → i < length fs → AreSorted fs → IsCut fs i d
cut [] i d l s = absurd (omega arith)
cut (f ∷ fs) zero d l s = record { rest = fs; whole = refl; wide = s.0; lower = tt; higher = all_behind f fs s }
cut (f ∷ fs) (suc i) d l s =
    let r = cut fs i d (omega arith) s.2 in
    record {
      rest = r.rest;
      whole = ap (λ gs. f ∷ gs) r.whole;
      wide = r.wide;
      lower = (stands_at f fs i d (omega arith) (all_behind f fs s), r.lower);
      higher = r.higher;
    }

-- which line a stretch began on
abbrev line_of : ℤ → Stretch → ℤ
line_of z None = z
line_of z (From a) = a

began_at : {a b : ℤ} → From a ≡ From b → a ≡ b
began_at {a} {b} e = ap (line_of a) e

abbrev is_begun : Stretch → Bool
is_begun None = false
is_begun (From a) = true

none_begun : {a : ℤ} → None ≡ From a → ⊥
none_begun e = true≢false (sym (ap is_begun e))

-- ---- the squares next to the line of a flip

module _ (past : List Flip) (f : Flip) (rest : List Flip) (lower : AllByRecursion (λ g. StandsBefore g f) past) (wide : f.x0 <ℤ f.x1) (higher : AllByRecursion (StandsBefore f) rest) where
  -- the squares of all flips; the region has them turned over
  abbrev pub turned : Squares
  turned x y = squares (past ++ f ∷ rest) y x

  rest_before : (gs : List Flip) (x y : ℤ) → AllByRecursion (StandsBefore f) gs → x <ℤ f.y → squares gs y x ≡ false
  rest_before [] x y a l = refl
  rest_before (g ∷ gs) x y a l =
      let k : f.y ≤ℤ g.y = elim a.0 [ inl m ↦ omega (arith, ints) | inr e ↦ let q : f.y ≡ g.y = e.0 in omega (arith, ints) ] in
      ap (λ b. exactly_one (b && changes g y) (squares gs y x)) (le_false g.y x (omega (arith, ints))) ∙ rest_before gs x y a.1 l

  rest_off : (gs : List Flip) (y : ℤ) → AllByRecursion (StandsBefore f) gs → y ≤ℤ f.x1 → squares gs y f.y ≡ false
  rest_off [] y a l = refl
  rest_off (g ∷ gs) y a l =
      let off : (int_le g.y f.y && changes g y) ≡ false =
      elim a.0 [
        | inl m ↦ ap (λ b. b && changes g y) (le_false g.y f.y m)
        | inr e ↦ let q : f.x1 <ℤ g.x0 = e.1 in ap (λ b. int_le g.y f.y && b) (between_before g.x0 g.x1 y (omega (arith, ints))) ∙ and_false (int_le g.y f.y)
      ] in
      ap (λ b. exactly_one b (squares gs y f.y)) off ∙ rest_off gs y a.1 l

  past_same : (gs : List Flip) (y : ℤ) → AllByRecursion (λ g. StandsBefore g f) gs → (f.x0 -ℤ pos 1) ≤ℤ y → squares gs y f.y ≡ squares gs y (f.y -ℤ pos 1)
  past_same [] y a l = refl
  past_same (g ∷ gs) y a l =
      let same : (int_le g.y f.y && changes g y) ≡ (int_le g.y (f.y -ℤ pos 1) && changes g y) =
      elim a.0 [
        | inl m ↦ let k : g.y <ℤ f.y = m in ap (λ b. b && changes g y) (le_true g.y f.y (omega (arith, ints)) ∙ sym (le_true g.y (f.y -ℤ pos 1) (omega (arith, ints))))
        | inr e ↦
            let q : g.x1 <ℤ f.x0 = e.1 in
            let none = between_past g.x0 g.x1 y (omega (arith, ints)) in
            ap (λ b. int_le g.y f.y && b) none ∙ (and_false (int_le g.y f.y) ∙ sym (ap (λ b. int_le g.y (f.y -ℤ pos 1) && b) none ∙ and_false (int_le g.y (f.y -ℤ pos 1))))
      ] in
      ap (λ b. exactly_one b (squares gs y f.y)) same ∙ ap (exactly_one (int_le g.y (f.y -ℤ pos 1) && changes g y)) (past_same gs y a.1 l)

  parts : (x y : ℤ) → turned x y ≡ exactly_one (squares past y x) (exactly_one (int_le f.y x && changes f y) (squares rest y x))
  parts x y = squares_append past (f ∷ rest) y x

  -- before the line the flips so far decide
  so_far : (x y : ℤ) → x <ℤ f.y → turned x y ≡ squares past y x
  so_far x y l =
      parts x y
      ∙ (ap (λ b. exactly_one (squares past y x) (exactly_one (b && changes f y) (squares rest y x))) (le_false f.y x l)
      ∙ (ap (exactly_one (squares past y x)) (rest_before rest x y higher l) ∙ one_right_false (squares past y x)))

  on_line : (y : ℤ) → y ≤ℤ f.x1 → turned f.y y ≡ exactly_one (squares past y f.y) (changes f y)
  on_line y l =
      parts f.y y
      ∙ (ap (λ b. exactly_one (squares past y f.y) (exactly_one (b && changes f y) (squares rest y f.y))) (le_true f.y f.y (omega (arith, ints)))
      ∙ ap (exactly_one (squares past y f.y)) (ap (exactly_one (changes f y)) (rest_off rest y higher l) ∙ one_right_false (changes f y)))

  -- in the rows next to the flip nothing ends or begins on the line
  edge : (y a : ℤ) → (f.x0 -ℤ pos 1) ≤ℤ y → y ≤ℤ f.x1 → changes f y ≡ false → IsStretch turned y a f.y → ⊥
  edge y a l m n st =
      let k : a <ℤ f.y = st.wide in
      clash (turned (f.y -ℤ pos 1) y) (st.inside (f.y -ℤ pos 1) (omega (arith, ints)) (omega (arith, ints)))
      (so_far (f.y -ℤ pos 1) y (omega (arith, ints))
      ∙ (sym (past_same past y lower l)
      ∙ (sym (on_line y m ∙ (ap (exactly_one (squares past y f.y)) n ∙ one_right_false (squares past y f.y))) ∙ st.behind)))

  up_to_line : LieUpTo f.y past
  up_to_line =
      all_weaker (λ g. StandsBefore g f) (λ g. g.y ≤ℤ f.y) (λ g s. elim s [ inl l ↦ omega (arith, ints) | inr e ↦ let q : g.y ≡ f.y = e.0 in omega (arith, ints) ]) past lower

  module _ (row : List (Entry Stretch)) (rects : List Rect) (s : IsSwept past row rects) (left : (y a : ℤ) → value_from None row y ≡ From a → squares past y (a -ℤ pos 1) ≡ false) where
    begun_has : (x y a : ℤ) → value_from None row y ≡ From a → a ≤ℤ x → squares past y x ≡ true
    begun_has x y a e l =
        s.has x y
        ∙ (ap (λ v. covered rects x y || has_begun v x) e
        ∙ (ap (λ b. covered rects x y || b) (le_true a x l) ∙ or-true (covered rects x y)))

    none_has : (y : ℤ) → value_from None row y ≡ None → squares past y f.y ≡ false
    none_has y e =
        s.has f.y y
        ∙ (ap (λ v. covered rects f.y y || has_begun v f.y) e
        ∙ ap (λ b. b || false) (none_past_end rects f.y f.y y (s.end_up_to f.y up_to_line) (omega (arith, ints))))

    -- what has begun in a row of the flip ends on the line
    is_stretch : (y a : ℤ) → f.x0 ≤ℤ y → y <ℤ f.x1 → value_from None row y ≡ From a → a <ℤ f.y → IsStretch turned y a f.y
    is_stretch y a l m e w =
        record {
          wide = w;
          inside = λ x p q. so_far x y q ∙ begun_has x y a e p;
          before = so_far (a -ℤ pos 1) y (omega (arith, ints)) ∙ left y a e;
          behind =
              on_line y (omega (arith, ints))
              ∙ (ap (λ b. exactly_one b (changes f y)) (begun_has f.y y a e (omega (arith, ints))) ∙ ap not (between_true f.x0 f.x1 y l m));
        }

    began : (y b : ℤ) → value_from None row y ≡ From b → b ≤ℤ f.y
    began y b e = subst (BeganUpTo f.y) e (s.began_up_to f.y up_to_line y)

    -- and in a row of the flip with another value no such stretch does
    other : (y a : ℤ) (v : Stretch) → f.x0 ≤ℤ y → value_from None row y ≡ v → (v ≡ From a → ⊥) → IsStretch turned y a f.y → ⊥
    other y a None l e n st =
        let w : a <ℤ f.y = st.wide in
        clash (turned (f.y -ℤ pos 1) y) (st.inside (f.y -ℤ pos 1) (omega (arith, ints)) (omega (arith, ints)))
        (so_far (f.y -ℤ pos 1) y (omega (arith, ints)) ∙ (sym (past_same past y lower (omega (arith, ints))) ∙ none_has y e))
    other y a (From b) l e n st =
        let w : a <ℤ f.y = st.wide in
        let k : b ≤ℤ f.y = began y b e in
        by_lt_z a b
        (λ m.
        clash (turned (b -ℤ pos 1) y) (st.inside (b -ℤ pos 1) (omega (arith, ints)) (omega (arith, ints)))
        (so_far (b -ℤ pos 1) y (omega (arith, ints)) ∙ left y b e))
        (λ m. by_lt_z b a
        (λ o.
        clash (turned (a -ℤ pos 1) y) (so_far (a -ℤ pos 1) y (omega (arith, ints)) ∙ begun_has (a -ℤ pos 1) y b e (omega (arith, ints))) st.before)
        (λ o. let q : b ≡ a = omega (arith, ints) in n (ap From q)))

    -- no stretch ends on the line below the first piece that has ended there, too
    abbrev IsFirst : ℤ → List (Piece Stretch) → Type 0
    IsFirst y [] = Unit {0}
    IsFirst y (p ∷ ps) = (a : ℤ) → p.old ≡ From a → IsStretch turned (y -ℤ pos 1) a f.y → ⊥

    -- nor above the last
    above : (y0 a : ℤ) (p : Piece Stretch) (ps : List (Piece Stretch)) → f.x0 ≤ℤ y0 → Tile (value_from None row) y0 f.x1 (p ∷ ps) → FirstDiffers p.old ps → p.old ≡ From a → IsStretch turned p.x1 a f.y → ⊥
    above y0 a p [] l t d e st =
        let q : p.x1 ≡ f.x1 = t.3 in
        edge p.x1 a (omega (arith, ints)) (omega (arith, ints)) (between_past f.x0 f.x1 p.x1 (omega (arith, ints))) st
    above y0 a p (q ∷ qs) l t d e st =
        let w : y0 <ℤ p.x1 = t.1 in
        let m : p.x1 <ℤ q.x1 = t.3.1 in
        other p.x1 a q.old (omega (arith, ints)) (t.3.2 p.x1 (omega (arith, ints)) m) (λ g. d (e ∙ sym g)) st

    next_first : (y0 : ℤ) (p : Piece Stretch) (ps : List (Piece Stretch)) → f.x0 ≤ℤ y0 → Tile (value_from None row) y0 f.x1 (p ∷ ps) → FirstDiffers p.old ps → IsFirst p.x1 ps
    next_first y0 p [] l t d = tt
    next_first y0 p (q ∷ qs) l t d =
        λ a e st.
        let w : y0 <ℤ p.x1 = t.1 in
        other (p.x1 -ℤ pos 1) a p.old (omega (arith, ints)) (t.2 (p.x1 -ℤ pos 1) (omega (arith, ints)) (omega (arith, ints))) (λ g. d (g ∙ sym e)) st

    one_canonical : (y0 a : ℤ) (p : Piece Stretch) (ps : List (Piece Stretch)) → f.x0 ≤ℤ y0 → Tile (value_from None row) y0 f.x1 (p ∷ ps) → FirstDiffers p.old ps → IsFirst y0 (p ∷ ps) → p.old ≡ From a → a <ℤ f.y → IsCanonical turned (record { x0 = a; y0 = p.x0; x1 = f.y; y1 = p.x1 })
    one_canonical y0 a p ps l t d first e w =
        let q : p.x0 ≡ y0 = t.0 in
        let m : y0 <ℤ p.x1 = t.1 in
        let n : p.x1 ≤ℤ f.x1 = ends_within (value_from None row) p.x1 f.x1 ps t.3 in
        record {
          high = omega (arith, ints);
          rows = λ y u v. is_stretch y a (omega (arith, ints)) (omega (arith, ints)) (t.2 y (omega (arith, ints)) v ∙ e) w;
          below = λ st. first a e (subst (λ z. IsStretch turned (z -ℤ pos 1) a f.y) q st);
          above = above y0 a p ps l t d e;
        }

    of_one : (p : Piece Stretch) (v : Stretch) → ((a : ℤ) → v ≡ From a → a <ℤ f.y → IsCanonical turned (record { x0 = a; y0 = p.x0; x1 = f.y; y1 = p.x1 })) → AllByRecursion (IsCanonical turned) (ended_one f.y p.x0 p.x1 v)
    of_one p None h = tt
    of_one p (From a) h =
        by_lt_z a f.y
        (λ l. subst (λ b. AllByRecursion (IsCanonical turned) (cond b (record { x0 = a; y0 = p.x0; x1 = f.y; y1 = p.x1 } ∷ []) [])) (sym (lt_true a f.y l)) (h a refl l, tt))
        (λ l. subst (λ b. AllByRecursion (IsCanonical turned) (cond b (record { x0 = a; y0 = p.x0; x1 = f.y; y1 = p.x1 } ∷ []) [])) (sym (lt_false a f.y l)) tt)

    all_canonical : (y0 : ℤ) (ps : List (Piece Stretch)) → f.x0 ≤ℤ y0 → Tile (value_from None row) y0 f.x1 ps → Differ ps → IsFirst y0 ps → AllByRecursion (IsCanonical turned) (ended f.y ps)
    all_canonical y0 [] l t d first = tt
    all_canonical y0 (p ∷ ps) l t d first =
        let w : y0 <ℤ p.x1 = t.1 in
        all_append (IsCanonical turned) (ended_one f.y p.x0 p.x1 p.old) (ended f.y ps)
        (of_one p p.old (λ a e m. one_canonical y0 a p ps l t d.0 first e m))
        (all_canonical p.x1 ps (omega (arith, ints)) t.3 d.1 (next_first y0 p ps l t d.0))

    first_on_edge : (ps : List (Piece Stretch)) → IsFirst f.x0 ps
    first_on_edge [] = tt
    first_on_edge (p ∷ ps) =
        λ a e st. edge (f.x0 -ℤ pos 1) a (omega (arith, ints)) (omega (arith, ints)) (between_before f.x0 f.x1 (f.x0 -ℤ pos 1) (omega (arith, ints))) st

    pub ended_canonical : (ps : List (Piece Stretch)) → Tile (value_from None row) f.x0 f.x1 ps → Differ ps → AllByRecursion (IsCanonical turned) (ended f.y ps)
    ended_canonical ps t d = all_canonical f.x0 ps (omega (arith, ints)) t d (first_on_edge ps)

    -- what has begun has no square on its left
    pub left_step : (next : List (Entry Stretch)) → ((y : ℤ) → value_from None next y ≡ cond (between f.x0 f.x1 y) (passed f.y (value_from None row y)) (value_from None row y)) → (y a : ℤ) → value_from None next y ≡ From a → squares (past ++ f ∷ []) y (a -ℤ pos 1) ≡ false
    left_step next changed y a e =
        squares_append past (f ∷ []) y (a -ℤ pos 1)
        ∙ (ap (exactly_one (squares past y (a -ℤ pos 1))) (one_right_false (int_le f.y (a -ℤ pos 1) && changes f y))
        ∙ by_row (between f.x0 f.x1 y) (value_from None row y) refl refl (sym (changed y) ∙ e))
      where
        by_row : (b : Bool) (v : Stretch) → between f.x0 f.x1 y ≡ b → value_from None row y ≡ v → cond b (passed f.y v) v ≡ From a → exactly_one (squares past y (a -ℤ pos 1)) (int_le f.y (a -ℤ pos 1) && changes f y) ≡ false
        by_row true None p q g =
            let k : f.y ≡ a = began_at g in
            let m : f.x0 ≤ℤ y = from_between f.x0 f.x1 y p in
            ap (λ c. exactly_one (squares past y (a -ℤ pos 1)) (c && changes f y)) (le_false f.y (a -ℤ pos 1) (omega (arith, ints)))
            ∙ (one_right_false (squares past y (a -ℤ pos 1))
            ∙ (ap (λ z. squares past y (z -ℤ pos 1)) (sym k)
            ∙ (sym (past_same past y lower (omega (arith, ints))) ∙ none_has y q)))
        by_row true (From b) p q g = absurd (none_begun g)
        by_row false v p q g =
            ap (λ c. exactly_one (squares past y (a -ℤ pos 1)) (int_le f.y (a -ℤ pos 1) && c)) p
            ∙ (ap (exactly_one (squares past y (a -ℤ pos 1))) (and_false (int_le f.y (a -ℤ pos 1)))
            ∙ (one_right_false (squares past y (a -ℤ pos 1)) ∙ left y a (q ∙ g)))

-- ---- the sweep

behind_first : (f g : Flip) → StandsBefore f g → LiesBehind f g
behind_first f g s = elim s [ inl l ↦ inl l | inr e ↦ let k : f.x1 <ℤ g.x0 = e.1 in inr (e.0, omega (arith, ints)) ]

-- how far a sweep over all flips has come
pub record IsTold (flips past : List Flip) (row : List (Entry Stretch)) (rects : List Rect) : Type 0 where
  pub swept : IsSwept past row rects
  pub left : (y a : ℤ) → value_from None row y ≡ From a → squares past y (a -ℤ pos 1) ≡ false
  pub canonical : AllByRecursion (IsCanonical (λ x y. squares flips y x)) rects

none_from : {A : Type 0} {a : ℤ} → None ≡ From a → A
none_from e = absurd (none_begun e)

pub told_start : (flips : List Flip) → IsTold flips [] [] []
told_start flips = record { swept = swept_start; left = λ y a e. none_from e; canonical = tt }

pub told_step : (flips : List Flip) (i : ℕ) (d : Flip) (row next : List (Entry Stretch)) (rects rects' : List Rect) (ps : List (Piece Stretch)) → i < length flips → AreSorted flips → Tile (value_from None row) (get_or flips i d).x0 (get_or flips i d).x1 ps → Differ ps → ((y : ℤ) → value_from None next y ≡ cond (between (get_or flips i d).x0 (get_or flips i d).x1 y) (passed (get_or flips i d).y (value_from None row y)) (value_from None row y)) → rects' ≡ rects ++ ended (get_or flips i d).y ps → IsTold flips (take i flips) row rects → IsTold flips (take (i + 1) flips) next rects'
told_step flips i d row next rects rects' ps l s tiles differ changed e told =
    let f = get_or flips i d in
    let past = take i flips in
    let c = cut flips i d l s in
    let behind : AllByRecursion (λ g. LiesBehind g f) past = all_weaker (λ g. StandsBefore g f) (λ g. LiesBehind g f) (λ g h. behind_first g f h) past c.lower in
    let new = ended_canonical past f c.rest c.lower c.wide c.higher row rects told.swept told.left ps tiles differ in
    record {
      swept = subst (λ fs. IsSwept fs next rects') (sym (take_more flips i d l)) (swept_step past f row next ps behind tiles changed rects rects' e told.swept);
      left =
          subst (λ fs. (y a : ℤ) → value_from None next y ≡ From a → squares fs y (a -ℤ pos 1) ≡ false) (sym (take_more flips i d l))
          (left_step past f c.rest c.lower c.wide c.higher row rects told.swept told.left next changed);
      canonical =
          subst (AllByRecursion (IsCanonical (λ x y. squares flips y x))) (sym e)
          (all_append (IsCanonical (λ x y. squares flips y x)) rects (ended f.y ps) told.canonical
          (subst (λ fs. AllByRecursion (IsCanonical (λ x y. squares fs y x)) (ended f.y ps)) (sym c.whole) new));
    }
