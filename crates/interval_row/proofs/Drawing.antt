-- A pen: what it has drawn up to a place stays when it turns there, and from there on it draws exactly if it is open.
use Rattle.std.proofs.Common.{◌≡◌, Bool, true, false, ◌||◌, ◌&&◌, ℤ, ◌<ℤ◌, ◌≤ℤ◌, int_le, int_lt, Option, None, Some, List, [], ◌∷◌, refl, ◌∙◌, ap, arith}
use Rattle.std.proofs.lemmas.Int.{ints}
use Rattle.std.specs.Option.{is_some}
use Rattle.std.proofs.lemmas.Bool.{or_right}
use Rattle.list_facts.proofs.Tests.{le_false, le_true, lt_true, or_right_known}
use Rattle.interval_row.specs.declared.span.Span.{Span}
use Rattle.interval_row.specs.Rows.{has, IsRow, StandsBehind}
use Rattle.interval_row.specs.Working.Walk.{CanTurn, spans_turned, begun_turned}
use Rattle.interval_row.proofs.Places.{EndsBy, none_above, ends_up, ends_behind, behind_ends, ends_push, row_push, has_append}

-- the places that are drawn, the open span without end
abbrev pub drawn : List Span → Option ℤ → ℤ → Bool
drawn spans None x = has spans x
drawn spans (Some lo) x = has spans x || int_le lo x

-- nothing ends or begins above place p
abbrev pub IsDrawn : ℤ → Option ℤ → List Span → Type 0
IsDrawn p None spans = EndsBy spans p
IsDrawn p (Some lo) spans = (lo ≤ℤ p) × StandsBehind spans lo

pub drawn_on : (p : ℤ) (o : Option ℤ) (spans : List Span) (x : ℤ) → IsDrawn p o spans → p ≤ℤ x → drawn spans o x ≡ is_some o
drawn_on p None spans x d h = none_above spans x (ends_up spans p x h d)
drawn_on p (Some lo) spans x d h =
    let k : lo ≤ℤ p = d.0 in
    or_right (has spans x) _ (le_true lo x (omega (arith, ints)))

pub can_turn : (p at : ℤ) (o : Option ℤ) (spans : List Span) → IsDrawn p o spans → p <ℤ at → CanTurn at o spans
can_turn p at None spans d h = tt
can_turn p at (Some lo) spans d h = let k : lo ≤ℤ p = d.0 in (omega (arith, ints), d.1)

pub turned_row : (on : Bool) (p at : ℤ) (o : Option ℤ) (spans : List Span) → IsRow spans → IsDrawn p o spans → p <ℤ at → IsRow (spans_turned on at o spans)
turned_row on p at None spans r d h = r
turned_row true p at (Some lo) spans r d h = r
turned_row false p at (Some lo) spans r d h =
    let k : lo ≤ℤ p = d.0 in
    let s : Span = record { lo = lo; hi = at } in
    row_push spans s r d.1 (omega (arith, ints))

pub turned_drawn : (on : Bool) (p at : ℤ) (o : Option ℤ) (spans : List Span) → IsDrawn p o spans → p <ℤ at → IsDrawn at (begun_turned on at o) (spans_turned on at o spans)
turned_drawn true p at None spans d h = (omega (arith, ints), behind_ends spans p at h d)
turned_drawn false p at None spans d h = ends_up spans p at (omega (arith, ints)) d
turned_drawn true p at (Some lo) spans d h = let k : lo ≤ℤ p = d.0 in (omega (arith, ints), d.1)
turned_drawn false p at (Some lo) spans d h =
    let k : lo ≤ℤ p = d.0 in
    let s : Span = record { lo = lo; hi = at } in
    ends_push spans s at (ends_behind spans lo at (omega (arith, ints)) d.1) (omega (arith, ints))

pub turned_on : (on : Bool) (at : ℤ) (o : Option ℤ) → is_some (begun_turned on at o) ≡ on
turned_on true at None = refl
turned_on false at None = refl
turned_on true at (Some lo) = refl
turned_on false at (Some lo) = refl

closed : (p q : Bool) → q ≡ true → ((p && q) || false) ≡ p
closed true q e = or_right_known q false refl ∙ e
closed false q e = refl

pub turned_below : (on : Bool) (at : ℤ) (o : Option ℤ) (spans : List Span) (x : ℤ) → x <ℤ at → drawn (spans_turned on at o spans) (begun_turned on at o) x ≡ drawn spans o x
turned_below true at None spans x h = or_right_known (has spans x) _ (le_false at x h)
turned_below false at None spans x h = refl
turned_below true at (Some lo) spans x h = refl
turned_below false at (Some lo) spans x h =
    has_append spans (record { lo = lo; hi = at } ∷ []) x ∙ ap (λ v. has spans x || v) (closed (int_le lo x) (int_lt x at) (lt_true x at h))
