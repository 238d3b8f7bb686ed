-- The walk over two rows: what is drawn below the place that it has come to is what the operation keeps of both rows.
use Rattle.std.proofs.Common.{◌≡◌, Bool, false, inl, inr, ◌+◌, ◌<◌, ℤ, pos, ◌-ℤ◌, ◌<ℤ◌, ◌≤ℤ◌, Option, None, Some, List, [], ◌∷◌, refl, sym, ◌∙◌, ap, arith}
use Rattle.std.proofs.lemmas.Int.{ints, by_lt_z}
use Rattle.std.specs.Option.{is_some}
use mathlib.Core.Bool.{true≢false}
use Rattle.interval_row.specs.Working.Operations.{joined}
use Rattle.interval_row.specs.declared.span.Span.{Span}
use Rattle.interval_row.specs.declared.operation.Operation.{Operation}
use Rattle.interval_row.specs.declared.operation.Operation.TheVariants.{And, Or, Not, Xor}
use Rattle.interval_row.specs.Rows.{has, BeginsAbove, IsRow}
use Rattle.interval_row.specs.Working.Walk.{Walk, CanTurn, next_end, outside, past, stepped, walk_end}
use Rattle.interval_row.proofs.Places.{none_below, begins_down}
use Rattle.interval_row.proofs.Ends.{ahead, IsCursor, cursor_beyond, ahead_still, passes, ends_left, no_more_left, fewer_left, none_left, earlier_up, earlier_one, earlier_none, earlier_beyond, beyond_earlier}
use Rattle.interval_row.proofs.Drawing.{drawn, IsDrawn, drawn_on, can_turn, turned_row, turned_drawn, turned_on, turned_below}

-- the walk over rows a and b has come to a place
pub record IsWalk (op : Operation) (a b : List Span) (w : Walk) : Type 0 where
  pub place : ℤ
  pub first : IsCursor place w.first.inside w.first.spans
  pub second : IsCursor place w.second.inside w.second.spans
  pub row : IsRow w.row
  pub pen : IsDrawn place w.begun w.row
  pub on : is_some w.begun ≡ joined op w.first.inside w.second.inside
  pub below : (x : ℤ) → x <ℤ place → drawn w.row w.begun x ≡ joined op (has a x) (has b x)
  pub ahead_first : (x : ℤ) → place ≤ℤ x → has a x ≡ ahead w.first.inside w.first.spans x
  pub ahead_second : (x : ℤ) → place ≤ℤ x → has b x ≡ ahead w.second.inside w.second.spans x

pub keeps_none : (op : Operation) → joined op false false ≡ false
keeps_none And = refl
keeps_none Or = refl
keeps_none Not = refl
keeps_none Xor = refl

-- some place below all that a row has
record Under (ss : List Span) : Type 0 where
  place : ℤ
  under : BeginsAbove place ss

under : (ss : List Span) → Under ss
under [] = record { place = pos 0; under = tt }
under (s ∷ ss) = record { place = s.lo -ℤ pos 1; under = omega (arith, ints) }

pub none_begun : (begun : Option ℤ) → is_some begun ≡ false → begun ≡ None
none_begun None e = refl
none_begun (Some lo) e = absurd (true≢false e)

start_at : (op : Operation) (a b : List Span) (p : ℤ) → IsRow a → IsRow b → BeginsAbove p a → BeginsAbove p b → IsWalk op a b (outside a b [] None)
start_at op a b p r q u v =
    record {
      place = p;
      first = (u, r);
      second = (v, q);
      row = tt;
      pen = tt;
      on = sym (keeps_none op);
      below = λ x h.
          let e = none_below a x r (begins_down x p a (omega (arith, ints)) u) in
          let f = none_below b x q (begins_down x p b (omega (arith, ints)) v) in
          sym ((λ i. joined op (e i) (f i)) ∙ keeps_none op);
      ahead_first = λ x h. refl;
      ahead_second = λ x h. refl;
    }

pub walk_start : (op : Operation) (a b : List Span) → IsRow a → IsRow b → IsWalk op a b (outside a b [] None)
walk_start op a b r q =
    let u = under a in
    let v = under b in
    by_lt_z u.place v.place
    (λ l. start_at op a b u.place r q u.under (begins_down u.place v.place b (omega (arith, ints)) v.under))
    (λ l. start_at op a b v.place r q (begins_down v.place u.place a l u.under) v.under)

module _ (op : Operation) (a b : List Span) (walk : Walk) (w : IsWalk op a b walk) where
  later : (at : ℤ) → walk_end walk ≡ Some at → w.place <ℤ at
  later at e = earlier_beyond w.place _ _ at (cursor_beyond w.place walk.first.inside walk.first.spans w.first) (cursor_beyond w.place walk.second.inside walk.second.spans w.second) e

  pub walk_can_turn : (at : ℤ) → walk_end walk ≡ Some at → CanTurn at walk.begun walk.row
  walk_can_turn at e = can_turn w.place at walk.begun walk.row w.pen (later at e)

  -- between two ends the pen draws, or does not
  draws_on : (at x : ℤ) → walk_end walk ≡ Some at → w.place ≤ℤ x → x <ℤ at → drawn walk.row walk.begun x ≡ joined op (has a x) (has b x)
  draws_on at x e h k =
      let u = earlier_up _ _ at e in
      let f = w.ahead_first x h ∙ ahead_still w.place walk.first.inside walk.first.spans x w.first (beyond_earlier x at _ k u.0) in
      let g = w.ahead_second x h ∙ ahead_still w.place walk.second.inside walk.second.spans x w.second (beyond_earlier x at _ k u.1) in
      drawn_on w.place walk.begun walk.row x w.pen h ∙ (w.on ∙ sym (λ i. joined op (f i) (g i)))

  all_below : (at x : ℤ) → walk_end walk ≡ Some at → x <ℤ at → drawn walk.row walk.begun x ≡ joined op (has a x) (has b x)
  all_below at x e k = by_lt_z x w.place (λ l. w.below x l) (λ l. draws_on at x e l k)

  step_on : (at : ℤ) (on : Bool) → walk_end walk ≡ Some at → on ≡ joined op (past at walk.first).inside (past at walk.second).inside → IsWalk op a b (stepped at on walk)
  step_on at on e o =
      let u = earlier_up _ _ at e in
      let p = passes w.place at walk.first.inside walk.first.spans w.first u.0 in
      let q = passes w.place at walk.second.inside walk.second.spans w.second u.1 in
      let l = later at e in
      record {
        place = at;
        first = p.stands;
        second = q.stands;
        row = turned_row on w.place at walk.begun walk.row w.row w.pen l;
        pen = turned_drawn on w.place at walk.begun walk.row w.pen l;
        on = turned_on on at walk.begun ∙ o;
        below = λ x h. turned_below on at walk.begun walk.row x h ∙ all_below at x e h;
        ahead_first = λ x h. w.ahead_first x (omega (arith, ints)) ∙ p.same x h;
        ahead_second = λ x h. w.ahead_second x (omega (arith, ints)) ∙ q.same x h;
      }

  pub walk_step : (at : ℤ) → walk_end walk ≡ Some at → IsWalk op a b (stepped at (joined op (past at walk.first).inside (past at walk.second).inside) walk)
  walk_step at e = step_on at _ e refl

  -- with no end left the row is what the operation keeps
  pub walk_over : walk_end walk ≡ None → (x : ℤ) → has walk.row x ≡ joined op (has a x) (has b x)
  walk_over e x =
      let n = earlier_none (next_end walk.first.inside walk.first.spans) (next_end walk.second.inside walk.second.spans) e in
      let f = none_left w.place walk.first.inside walk.first.spans w.first n.0 in
      let g = none_left w.place walk.second.inside walk.second.spans w.second n.1 in
      let still : is_some walk.begun ≡ false = w.on ∙ ((λ i. joined op (f.0 i) (g.0 i)) ∙ keeps_none op) in
      let whole : has walk.row x ≡ drawn walk.row walk.begun x = ap (λ o. drawn walk.row o x) (sym (none_begun walk.begun still)) in
      whole
      ∙ by_lt_z x w.place
      (λ l. w.below x l)
      (λ l.
      let p : has a x ≡ false = w.ahead_first x l ∙ (λ i. ahead (f.0 i) (f.1 i) x) in
      let q : has b x ≡ false = w.ahead_second x l ∙ (λ i. ahead (g.0 i) (g.1 i) x) in
      drawn_on w.place walk.begun walk.row x w.pen l ∙ (still ∙ sym ((λ i. joined op (p i) (q i)) ∙ keeps_none op)))

-- ---- the measure: how many ends are left

pub walk_fewer : (at : ℤ) (w : Walk) → walk_end w ≡ Some at → ends_left (past at w.first).inside (past at w.first).spans + ends_left (past at w.second).inside (past at w.second).spans < ends_left w.first.inside w.first.spans + ends_left w.second.inside w.second.spans
walk_fewer at w e =
    let f = no_more_left at w.first.inside w.first.spans in
    let g = no_more_left at w.second.inside w.second.spans in
    elim (earlier_one (next_end w.first.inside w.first.spans) (next_end w.second.inside w.second.spans) at e) [
      | inl h ↦ let k = fewer_left at w.first.inside w.first.spans h in omega arith
      | inr h ↦ let k = fewer_left at w.second.inside w.second.spans h in omega arith
    ]
