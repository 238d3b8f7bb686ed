-- A band put upon a region: the flips of its lower line turn the row below it into nothing or into the band's row, and
-- those of its upper line undo the band's row.
use Rattle.std.proofs.Common.{◌≡◌, Bool, true, false, ◌&&◌, ◌||◌, inl, ℕ, ◌-◌, length, take, drop, ℤ, pos, ◌+ℤ◌, ◌<ℤ◌, ◌≤ℤ◌, int_le, List, [], ◌∷◌, ◌++◌, refl, sym, ap, subst, ◌∙◌, arith}
use Rattle.std.proofs.lemmas.Int.{ints, by_lt_z}
use Rattle.std.proofs.lemmas.List.{take-append-drop, take_rest}
use mathlib.Core.Bool.{true≢false}
use Rattle.std.proofs.lemmas.Bool.{and_left}
use Rattle.list_facts.proofs.Members.{all_append}
use Rattle.region_form.proofs.Parity.{is_odd_append, squares_append}
use Rattle.region_form.proofs.FlipLines.{below_up}
use Rattle.list_facts.proofs.EitherOr.{one_from_right_false, one_itself}
use Rattle.list_facts.proofs.Tests.{and_known, le_false, le_true, or_known, or_right_known}
use Rattle.list_facts.specs.EitherOr.{exactly_one}
use Rattle.interval_row.specs.declared.span.Span.{Span}
use Rattle.interval_row.specs.Rows.{has, IsRow}
use Rattle.region_form.specs.declared.flip.Flip.{Flip}
use Rattle.region_bands.specs.declared.band.Band.{Band}
use Rattle.region_form.specs.Flips.{squares, is_odd, StandsBeforeFirst, AreSorted, AreBelow, IsRegion}
use Rattle.region_bands.specs.Bands.{squares_of_band}
use Rattle.region_form.specs.LineFlips.{flips_on}
use Rattle.region_bands.specs.Working.LastLine.{spans_of, AreOn, HasBand}
use Rattle.region_form.proofs.FlipRows.{all_odd}
use Rattle.region_form.proofs.LineFlips.{sorted_on, odd_on, squares_of_line}
use Rattle.region_bands.proofs.LastLine.{on_line, row_of_line}
use Rattle.region_bands.proofs.BandRows.{band_inside, band_under, band_past}
use Rattle.region_form.proofs.FlipOrder.{sorted_behind}

stands_left : (f : Flip) (a b : List Flip) → StandsBeforeFirst f (a ++ b) → StandsBeforeFirst f a
stands_left f [] b s = tt
stands_left f (g ∷ gs) b s = s

pub sorted_left : (a b : List Flip) → AreSorted (a ++ b) → AreSorted a
sorted_left [] b s = tt
sorted_left (f ∷ fs) b s = (s.0, stands_left f fs b s.1, sorted_left fs b s.2)

-- every flip lies on or above this line
abbrev pub AreFrom : ℤ → List Flip → Type 0
AreFrom line [] = Unit {0}
AreFrom line (f ∷ fs) = (line ≤ℤ f.y) × AreFrom line fs

from_on : (line y : ℤ) (row : List Span) → line ≤ℤ y → AreFrom line (flips_on y row)
from_on line y [] h = tt
from_on line y (s ∷ ss) h = (h, from_on line y ss h)

from_append : (line : ℤ) (a b : List Flip) → AreFrom line a → AreFrom line b → AreFrom line (a ++ b)
from_append line [] b s t = t
from_append line (f ∷ fs) b s t = (s.0, from_append line fs b s.1 t)

below_on : (line y : ℤ) (row : List Span) → y <ℤ line → AreBelow line (flips_on y row)
below_on line y [] h = tt
below_on line y (s ∷ ss) h = (h, below_on line y ss h)

stands_low : (f : Flip) (line : ℤ) (b : List Flip) → f.y <ℤ line → AreFrom line b → StandsBeforeFirst f b
stands_low f line [] h s = tt
stands_low f line (g ∷ gs) h s = let k : line ≤ℤ g.y = s.0 in inl (omega (arith, ints))

-- sorted flips below a line, and sorted flips from it on
pub sorted_join : (line : ℤ) (a b : List Flip) → AreSorted a → AreBelow line a → AreSorted b → AreFrom line b → AreSorted (a ++ b)
sorted_join line [] b s l t u = t
sorted_join line (f ∷ []) b s l t u = (s.0, stands_low f line b l.0 u, t)
sorted_join line (f ∷ g ∷ gs) b s l t u = (s.0, s.1, sorted_join line (g ∷ gs) b s.2 l.1 t u)

-- the flips below the band, and those on its two lines
abbrev pub with_lines : List Flip → Band → List Span → List Flip
with_lines low band change = low ++ (flips_on band.y0 change ++ flips_on band.y1 band.row)

sorted_lines : (low : List Flip) (band : Band) (change : List Span) → AreSorted low → AreBelow band.y0 low → band.y0 <ℤ band.y1 → IsRow change → IsRow band.row → AreSorted (with_lines low band change)
sorted_lines low band change s l h c r =
    let k : band.y0 ≤ℤ band.y0 = omega (arith, ints) in
    let m : band.y1 ≤ℤ band.y1 = omega (arith, ints) in
    let n : band.y0 ≤ℤ band.y1 = omega (arith, ints) in
    sorted_join band.y0 low _ s l
    (sorted_join band.y1 (flips_on band.y0 change) (flips_on band.y1 band.row) (sorted_on band.y0 change c) (below_on band.y1 band.y0 change h) (sorted_on band.y1 band.row r) (from_on band.y1 band.y1 band.row m))
    (from_append band.y0 (flips_on band.y0 change) (flips_on band.y1 band.row) (from_on band.y0 band.y0 change k) (from_on band.y0 band.y1 band.row n))

-- the places of the flips of one line
has_line : (line : ℤ) (fs : List Flip) (x : ℤ) → AreSorted fs → AreOn line fs → is_odd fs x ≡ has (spans_of fs) x
has_line line fs x s o = ap (λ v. is_odd v x) (on_line line fs o) ∙ odd_on line (spans_of fs) x (row_of_line line fs s o)

squares_line : (line : ℤ) (fs : List Flip) (x y : ℤ) → AreSorted fs → AreOn line fs → squares fs x y ≡ (int_le line y && has (spans_of fs) x)
squares_line line fs x y s o = ap (λ v. squares v x y) (on_line line fs o) ∙ squares_of_line line (spans_of fs) x y (row_of_line line fs s o)

same_of_one : (p q : Bool) → exactly_one p q ≡ false → p ≡ q
same_of_one true true e = refl
same_of_one true false e = absurd (true≢false e)
same_of_one false true e = absurd (true≢false e)
same_of_one false false e = refl

-- low and line are the flips of a region below line y0 and on it: the places below the line are those of its flips
below_line : (line : ℤ) (low last : List Flip) (x : ℤ) → IsRegion (low ++ last) → AreOn line last → is_odd low x ≡ has (spans_of last) x
below_line line low last x r o =
    same_of_one (is_odd low x) (is_odd last x) (sym (is_odd_append low last x) ∙ r.closed x)
    ∙ has_line line last x (sorted_behind low last r.sorted) o

twice : (p q : Bool) → exactly_one p (exactly_one (exactly_one p q) q) ≡ false
twice true true = refl
twice true false = refl
twice false true = refl
twice false false = refl

odd_lines : (low : List Flip) (band : Band) (change : List Span) (x : ℤ) → IsRow change → IsRow band.row → has change x ≡ exactly_one (is_odd low x) (has band.row x) → is_odd (with_lines low band change) x ≡ false
odd_lines low band change x c r e =
    let e1 = is_odd_append low (flips_on band.y0 change ++ flips_on band.y1 band.row) x in
    let e2 = is_odd_append (flips_on band.y0 change) (flips_on band.y1 band.row) x in
    let e3 = odd_on band.y0 change x c in
    let e4 = odd_on band.y1 band.row x r in
    let e5 = twice (is_odd low x) (has band.row x) in
    cc

squares_lines : (low : List Flip) (band : Band) (change : List Span) (x y : ℤ) → IsRow change → IsRow band.row → squares (with_lines low band change) x y ≡ exactly_one (squares low x y) (exactly_one (int_le band.y0 y && has change x) (int_le band.y1 y && has band.row x))
squares_lines low band change x y c r =
    let e1 = squares_append low (flips_on band.y0 change ++ flips_on band.y1 band.row) x y in
    let e2 = squares_append (flips_on band.y0 change) (flips_on band.y1 band.row) x y in
    let e3 = squares_of_line band.y0 change x y c in
    let e4 = squares_of_line band.y1 band.row x y r in
    cc

-- below the band nothing changes
under : (s p0 p1 c w : Bool) → p0 ≡ false → p1 ≡ false → exactly_one s (exactly_one (p0 && c) (p1 && w)) ≡ s
under true false false c w e f = refl
under false false false c w e f = refl
under s true p1 c w e f = absurd (true≢false e)
under s false true c w e f = absurd (true≢false f)

-- in the band and above it the old squares are undone
in_band : (o w : Bool) → exactly_one o (exactly_one (exactly_one o w) (false && w)) ≡ w
in_band true true = refl
in_band true false = refl
in_band false true = refl
in_band false false = refl

over_band : (o w : Bool) → exactly_one o (exactly_one (exactly_one o w) (true && w)) ≡ false
over_band true true = refl
over_band true false = refl
over_band false true = refl
over_band false false = refl

-- the flips of a region below line y0 and on it, and the change on that line that a band makes
pub record IsChange (low last : List Flip) (band : Band) (change : List Span) : Type 0 where
  pub high : band.y0 <ℤ band.y1
  pub low_lines : AreBelow band.y0 low
  pub last_line : AreOn band.y0 last
  pub row : IsRow band.row
  pub change_row : IsRow change
  pub changed : (x : ℤ) → has change x ≡ exactly_one (has (spans_of last) x) (has band.row x)

changed_low : (low last : List Flip) (band : Band) (change : List Span) (x : ℤ) → IsRegion (low ++ last) → IsChange low last band change → has change x ≡ exactly_one (is_odd low x) (has band.row x)
changed_low low last band change x r c =
    c.changed x ∙ ap (λ v. exactly_one v (has band.row x)) (sym (below_line band.y0 low last x r c.last_line))

old_under : (low last : List Flip) (band : Band) (change : List Span) (x y : ℤ) → IsRegion (low ++ last) → IsChange low last band change → y <ℤ band.y0 → squares (low ++ last) x y ≡ squares low x y
old_under low last band change x y r c h =
    squares_append low last x y
    ∙ one_from_right_false (squares low x y) (squares last x y)
    (squares_line band.y0 last x y (sorted_behind low last r.sorted) c.last_line ∙ and_left (int_le band.y0 y) (has (spans_of last) x) (le_false band.y0 y h))

old_over : (low last : List Flip) (band : Band) (change : List Span) (x y : ℤ) → IsRegion (low ++ last) → IsChange low last band change → band.y0 ≤ℤ y → squares (low ++ last) x y ≡ false
old_over low last band change x y r c h =
    let e1 = squares_append low last x y in
    let e2 = all_odd low x y (below_up band.y0 y low h c.low_lines) in
    let e3 = squares_line band.y0 last x y (sorted_behind low last r.sorted) c.last_line in
    let e4 = and_known (int_le band.y0 y) (has (spans_of last) x) (le_true band.y0 y h) in
    let e5 = below_line band.y0 low last x r c.last_line in
    let e6 = one_itself (is_odd low x) in
    cc

now_over : (low last : List Flip) (band : Band) (change : List Span) (x y : ℤ) → IsRegion (low ++ last) → IsChange low last band change → band.y0 ≤ℤ y → squares (with_lines low band change) x y ≡ exactly_one (is_odd low x) (exactly_one (exactly_one (is_odd low x) (has band.row x)) (int_le band.y1 y && has band.row x))
now_over low last band change x y r c h =
    let e1 = squares_lines low band change x y c.change_row c.row in
    let e2 = all_odd low x y (below_up band.y0 y low h c.low_lines) in
    let e3 = and_known (int_le band.y0 y) (has change x) (le_true band.y0 y h) in
    let e4 = changed_low low last band change x r c in
    cc

band_squares : (low last : List Flip) (band : Band) (change : List Span) (x y : ℤ) → IsRegion (low ++ last) → IsChange low last band change → squares (with_lines low band change) x y ≡ (squares (low ++ last) x y || squares_of_band band x y)
band_squares low last band change x y r c =
    let k : band.y0 <ℤ band.y1 = c.high in
    by_lt_z y band.y0
    (λ h.
    let e1 = squares_lines low band change x y c.change_row c.row in
    let e2 = under (squares low x y) (int_le band.y0 y) (int_le band.y1 y) (has change x) (has band.row x) (le_false band.y0 y h) (le_false band.y1 y (omega (arith, ints))) in
    let e3 = old_under low last band change x y r c h in
    let e4 = or_right_known (squares (low ++ last) x y) (squares_of_band band x y) (band_under band x y h) in
    cc)
    (λ h. by_lt_z y band.y1
    (λ l.
    let e1 = now_over low last band change x y r c h in
    let e2 = in_band (is_odd low x) (has band.row x) in
    let e3 = or_known (squares (low ++ last) x y) (squares_of_band band x y) (old_over low last band change x y r c h) in
    let e4 = band_inside band x y h l in
    let e5 = le_false band.y1 y l in
    cc)
    (λ l.
    let e1 = now_over low last band change x y r c h in
    let e2 = over_band (is_odd low x) (has band.row x) in
    let e3 = or_known (squares (low ++ last) x y) (squares_of_band band x y) (old_over low last band change x y r c h) in
    let e4 = band_past band x y l in
    let e5 = le_true band.y1 y l in
    cc))

band_form : (low last : List Flip) (band : Band) (change : List Span) → IsRegion (low ++ last) → IsChange low last band change → IsRegion (with_lines low band change)
band_form low last band change r c =
    record {
      sorted = sorted_lines low band change (sorted_left low last r.sorted) c.low_lines c.high c.change_row c.row;
      closed = λ x. odd_lines low band change x c.change_row c.row (changed_low low last band change x r c);
    }

-- no line lies above the band
pushed_lines : (low last : List Flip) (band : Band) (change : List Span) → IsChange low last band change → AreBelow (band.y1 +ℤ pos 1) (with_lines low band change)
pushed_lines low last band change c =
    let h : band.y0 <ℤ band.y1 = c.high in
    let end : ℤ = band.y1 +ℤ pos 1 in
    let l : band.y0 ≤ℤ end = omega (arith, ints) in
    let m : band.y0 <ℤ end = omega (arith, ints) in
    let n : band.y1 <ℤ end = omega (arith, ints) in
    all_append (λ f. f.y <ℤ end) low _ (below_up band.y0 end low l c.low_lines)
    (all_append (λ f. f.y <ℤ end) (flips_on band.y0 change) (flips_on band.y1 band.row) (below_on end band.y0 change m) (below_on end band.y1 band.row n))

-- the same of flips that are cut at an index
pub pushed : (flips : List Flip) (start : ℕ) (band : Band) (change : List Span) → IsRegion flips → IsChange (take start flips) (drop start flips) band change → HasBand flips band (with_lines (take start flips) band change)
pushed flips start band change r c =
    let cut = take-append-drop start flips in
    let form = subst IsRegion (sym cut) r in
    record {
      form = band_form (take start flips) (drop start flips) band change form c;
      squares = λ x y.
          band_squares (take start flips) (drop start flips) band change x y form c
          ∙ ap (λ v. squares v x y || squares_of_band band x y) cut;
      lines = pushed_lines (take start flips) (drop start flips) band change c;
    }

pub last_row : (flips : List Flip) (start : ℕ) (line : ℤ) → AreSorted flips → AreOn line (drop start flips) → IsRow (spans_of (take (length flips - start) (drop start flips)))
last_row flips start line s o =
    let t = sorted_behind (take start flips) (drop start flips) (subst AreSorted (sym (take-append-drop start flips)) s) in
    subst (λ v. IsRow (spans_of v)) (sym (take_rest flips start)) (row_of_line line (drop start flips) t o)

pub change_of : (flips : List Flip) (start : ℕ) (band : Band) (below change : List Span) → band.y0 <ℤ band.y1 → AreBelow band.y0 (take start flips) → AreOn band.y0 (drop start flips) → IsRow band.row → IsRow change → below ≡ spans_of (take (length flips - start) (drop start flips)) → ((x : ℤ) → has change x ≡ exactly_one (has below x) (has band.row x)) → IsChange (take start flips) (drop start flips) band change
change_of flips start band below change h l o r c b e =
    record {
      high = h;
      low_lines = l;
      last_line = o;
      row = r;
      change_row = c;
      changed = λ x. e x ∙ ap (λ v. exactly_one (has v x) (has band.row x)) (b ∙ ap spans_of (take_rest flips start));
    }
