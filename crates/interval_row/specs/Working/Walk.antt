-- The parts of a walk over the ends of rows: a cursor, which stands in a row at its spans that have not ended, inside
-- the first of them or before it, and a pen, which has drawn whole spans and may have begun another.
use Rattle.std.specs.Prelude.{◌≡◌, ◌⊎◌, ℕ, ◌≤◌, ℤ, ◌<ℤ◌, int_le, Bool, true, false, if◌then◌else◌, Option, None, Some, List, [], ◌∷◌, ◌++◌, length, take, drop}
use Rattle.std.specs.Ordering.{int_eq}
use Rattle.interval_row.specs.Working.Operations.{joined}
use Rattle.interval_row.specs.declared.span.Span.{Span}
use Rattle.interval_row.specs.declared.cursor.Cursor.{Cursor}
use Rattle.interval_row.specs.declared.pen.Pen.{Pen}
use Rattle.interval_row.specs.declared.operation.Operation.{Operation}
use Rattle.interval_row.specs.Rows.{StandsBehind}

-- what a cursor has before it: the spans that have not ended, and whether the first of them has begun
pub record Rest : Type 0 where
  pub inside : Bool
  pub spans : List Span

-- where a walk stands: what is left of both rows, and what is drawn
pub record Walk : Type 0 where
  pub first : Rest
  pub second : Rest
  pub row : List Span
  pub begun : Option ℤ

abbrev pub rest_of : Cursor → Rest
rest_of cursor = record { inside = cursor.inside; spans = cursor.spans.now }

abbrev pub walk_of : Cursor → Cursor → Pen → Walk
walk_of a b pen = record { first = rest_of a; second = rest_of b; row = pen.row; begun = pen.begun }

-- a walk whose cursors stand outside of spans
abbrev pub outside : (first second : List Span) → (row : List Span) → Option ℤ → Walk
outside first second row begun =
    record { first = record { inside = false; spans = first }; second = record { inside = false; spans = second }; row = row; begun = begun }

-- the next end that a cursor comes to
abbrev pub next_end : Bool → List Span → Option ℤ
next_end inside [] = None
next_end inside (s ∷ ss) = Some (if inside then s.hi else s.lo)

-- the spans that have not ended past a place
abbrev pub spans_past : ℤ → Bool → List Span → List Span
spans_past at inside [] = []
spans_past at inside (s ∷ ss) = if inside then (if int_eq s.hi at then ss else s ∷ ss) else s ∷ ss

-- whether a cursor is inside a span past a place
abbrev pub inside_past : ℤ → Bool → List Span → Bool
inside_past at inside [] = inside
inside_past at inside (s ∷ ss) = if inside then (if int_eq s.hi at then false else true) else int_eq s.lo at

-- the lower of two ends, either of which may be wanting
abbrev pub earlier : Option ℤ → Option ℤ → Option ℤ
earlier None q = q
earlier (Some x) None = Some x
earlier (Some x) (Some y) = Some (if int_le x y then x else y)

-- at this place the pen can leave off: what it has begun lies below the place, and behind the whole spans
abbrev pub CanTurn : ℤ → Option ℤ → List Span → Type 0
CanTurn at None spans = Unit {0}
CanTurn at (Some lo) spans = (lo <ℤ at) × StandsBehind spans lo

-- the whole spans once the pen draws from a place on, or leaves off there
abbrev pub spans_turned : Bool → ℤ → Option ℤ → List Span → List Span
spans_turned on at None spans = spans
spans_turned on at (Some lo) spans = if on then spans else spans ++ record { lo = lo; hi = at } ∷ []

-- where the span that is then being drawn began
abbrev pub begun_turned : Bool → ℤ → Option ℤ → Option ℤ
begun_turned on at None = if on then Some at else None
begun_turned on at (Some lo) = if on then Some lo else None

-- a cursor past a place, and the whole walk, whose pen draws there or leaves off
abbrev pub past : ℤ → Rest → Rest
past at rest = record { inside = inside_past at rest.inside rest.spans; spans = spans_past at rest.inside rest.spans }

abbrev pub stepped : ℤ → Bool → Walk → Walk
stepped at on w = record { first = past at w.first; second = past at w.second; row = spans_turned on at w.begun w.row; begun = begun_turned on at w.begun }

-- the next end in either row
abbrev pub walk_end : Walk → Option ℤ
walk_end w = earlier (next_end w.first.inside w.first.spans) (next_end w.second.inside w.second.spans)

-- both cursors went past as many spans, which are the same in both rows and of which the operation keeps nothing
pub record Skips (op : Operation) (first second first' second' : Rest) : Type 0 where
  pub count : ℕ
  pub same : take count first.spans ≡ take count second.spans
  pub within : (count ≤ length first.spans) × (count ≤ length second.spans)
  pub none : (count ≡ 0) ⊎ ((first.inside ≡ false) × (second.inside ≡ false) × (joined op true true ≡ false))
  pub inside : (first'.inside ≡ first.inside) × (second'.inside ≡ second.inside)
  pub left : (first'.spans ≡ drop count first.spans) × (second'.spans ≡ drop count second.spans)

-- the spans end before a place, which may be wanting
abbrev pub EndBefore : Option ℤ → List Span → Type 0
EndBefore None spans = Unit {0}
EndBefore (Some place) spans = StandsBehind spans place

-- the cursor in the first row went past spans that end before the next end in the second row, and the pen has drawn
-- them where the operation keeps what the first row alone has
pub record PassesAlone (op : Operation) (old new : Walk) : Type 0 where
  pub count : ℕ
  pub within : count ≤ length old.first.spans
  pub none : (count ≡ 0) ⊎ ((old.first.inside ≡ false) × (old.second.inside ≡ false) × EndBefore (next_end old.second.inside old.second.spans) (take count old.first.spans))
  pub inside : new.first.inside ≡ old.first.inside
  pub left : new.first.spans ≡ drop count old.first.spans
  pub drawn : new.row ≡ old.row ++ (if joined op true false then take count old.first.spans else [])
  pub same : new.begun ≡ old.begun
