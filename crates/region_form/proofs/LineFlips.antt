-- What is known of the flips of one line: they are those of a row, and change its places.
use Rattle.std.proofs.Common.{◌≡◌, false, ◌&&◌, inr, ℤ, ◌<ℤ◌, ◌≤ℤ◌, int_le, int_lt, List, [], ◌∷◌, refl, sym, ap, ◌∙◌, arith}
use Rattle.std.proofs.lemmas.Int.{ints, by_lt_z}
use Rattle.std.proofs.lemmas.Bool.{and_left, and_right}
use Rattle.list_facts.specs.Between.{between}
use Rattle.list_facts.proofs.EitherOr.{one_from_left_false, one_from_or}
use Rattle.list_facts.proofs.Tests.{and_known, le_false, le_true, between_past}
use Rattle.list_facts.specs.EitherOr.{exactly_one}
use Rattle.interval_row.specs.declared.span.Span.{Span}
use Rattle.interval_row.specs.Rows.{has, IsRow, BeginsAbove}
use Rattle.interval_row.proofs.Places.{none_below, begins_down}
use Rattle.region_form.specs.Flips.{squares, is_odd, StandsBeforeFirst, AreSorted}
use Rattle.region_form.specs.LineFlips.{flips_on}

next_on : (line : ℤ) (s : Span) (ss : List Span) → BeginsAbove s.hi ss → StandsBeforeFirst (record { y = line; x0 = s.lo; x1 = s.hi }) (flips_on line ss)
next_on line s [] b = tt
next_on line s (t ∷ ts) b = inr (refl, b)

pub sorted_on : (line : ℤ) (row : List Span) → IsRow row → AreSorted (flips_on line row)
sorted_on line [] r = tt
sorted_on line (s ∷ ss) r = (r.0, next_on line s ss r.1, sorted_on line ss r.2)

-- a place is in the first span of a row, or in the rest of it, and not in both
not_both : (s : Span) (ss : List Span) (x : ℤ) → IsRow (s ∷ ss) → (between s.lo s.hi x && has ss x) ≡ false
not_both s ss x r =
    by_lt_z x s.hi
    (λ l. and_right (between s.lo s.hi x) _ (none_below ss x r.2 (begins_down x s.hi ss (omega (arith, ints)) r.1)))
    (λ l. and_left _ (has ss x) (between_past s.lo s.hi x l))

pub first_or_rest : (s : Span) (ss : List Span) (x : ℤ) → IsRow (s ∷ ss) → has (s ∷ ss) x ≡ exactly_one (between s.lo s.hi x) (has ss x)
first_or_rest s ss x r = one_from_or _ (has ss x) (not_both s ss x r)

-- the flips of a row change exactly its places
pub odd_on : (line : ℤ) (row : List Span) (x : ℤ) → IsRow row → is_odd (flips_on line row) x ≡ has row x
odd_on line [] x r = refl
odd_on line (s ∷ ss) x r =
    ap (exactly_one (between s.lo s.hi x)) (odd_on line ss x r.2) ∙ sym (first_or_rest s ss x r)

pub squares_on : (line : ℤ) (row : List Span) (x y : ℤ) → line ≤ℤ y → squares (flips_on line row) x y ≡ is_odd (flips_on line row) x
squares_on line [] x y h = refl
squares_on line (s ∷ ss) x y h =
    let e = and_known (int_le line y) (int_le s.lo x && int_lt x s.hi) (le_true line y h) in
    let r = squares_on line ss x y h in
    cc

pub none_on : (line : ℤ) (row : List Span) (x y : ℤ) → y <ℤ line → squares (flips_on line row) x y ≡ false
none_on line [] x y h = refl
none_on line (s ∷ ss) x y h =
    one_from_left_false (int_le line y && (int_le s.lo x && int_lt x s.hi)) (squares (flips_on line ss) x y) (and_left (int_le line y) (int_le s.lo x && int_lt x s.hi) (le_false line y h))
    ∙ none_on line ss x y h

-- the squares of the flips of a row on a line: its places, from that line on
pub squares_of_line : (line : ℤ) (row : List Span) (x y : ℤ) → IsRow row → squares (flips_on line row) x y ≡ (int_le line y && has row x)
squares_of_line line row x y r =
    by_lt_z y line
    (λ l. none_on line row x y l ∙ sym (and_left (int_le line y) (has row x) (le_false line y l)))
    (λ l. squares_on line row x y l ∙ (odd_on line row x r ∙ sym (and_known (int_le line y) (has row x) (le_true line y l))))
