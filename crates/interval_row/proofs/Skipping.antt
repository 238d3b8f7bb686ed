-- A walk that goes past spans which both rows have, where the operation keeps nothing of them.
use Rattle.std.proofs.Common.{◌≡◌, inl, inr, true, false, ℕ, zero, suc, ◌+◌, ◌≤◌, ◌⊎◌, length, take, drop, ℤ, ◌<ℤ◌, ◌≤ℤ◌, Option, None, Some, List, [], ◌∷◌, sym, subst, ◌∙◌, ap, arith}
use Rattle.std.proofs.lemmas.Int.{ints, by_lt_z}
use Rattle.interval_row.specs.Working.Operations.{joined}
use Rattle.interval_row.specs.declared.span.Span.{Span}
use Rattle.interval_row.specs.declared.operation.Operation.{Operation}
use Rattle.interval_row.specs.Rows.{has, IsRow}
use Rattle.interval_row.specs.Working.Walk.{Rest, Skips, Walk, outside}
use Rattle.interval_row.proofs.Places.{has_inside, has_past, none_below, ends_up}
use Rattle.interval_row.proofs.Ends.{ends_left, all_left}
use Rattle.interval_row.proofs.Drawing.{IsDrawn, drawn_on}
use Rattle.interval_row.proofs.Walks.{IsWalk, keeps_none}

drawn_up : (p q : ℤ) (begun : Option ℤ) (spans : List Span) → p ≤ℤ q → IsDrawn p begun spans → IsDrawn q begun spans
drawn_up p q None spans h d = ends_up spans p q h d
drawn_up p q (Some lo) spans h d = let k : lo ≤ℤ p = d.0 in (omega (arith, ints), d.1)

-- below the end of a span that both have, both have a place or neither has
both_or_none : (op : Operation) (s : Span) (ss ts : List Span) (x : ℤ) → joined op true true ≡ false → IsRow (s ∷ ss) → IsRow (s ∷ ts) → x <ℤ s.hi → joined op (has (s ∷ ss) x) (has (s ∷ ts) x) ≡ false
both_or_none op s ss ts x n r q h =
    by_lt_z x s.lo
    (λ l. ap (λ t. joined op t (has (s ∷ ts) x)) (none_below (s ∷ ss) x r l) ∙ (ap (λ t. joined op false t) (none_below (s ∷ ts) x q l) ∙ keeps_none op))
    (λ l. ap (λ t. joined op t (has (s ∷ ts) x)) (has_inside s ss x l h) ∙ (ap (λ t. joined op true t) (has_inside s ts x l h) ∙ n))

skip_one : (op : Operation) (a b : List Span) (s : Span) (ss ts row : List Span) (begun : Option ℤ) → joined op true true ≡ false → IsWalk op a b (outside (s ∷ ss) (s ∷ ts) row begun) → IsWalk op a b (outside ss ts row begun)
skip_one op a b s ss ts row begun n w =
    let r : IsRow (s ∷ ss) = w.first.1 in
    let q : IsRow (s ∷ ts) = w.second.1 in
    let l : w.place <ℤ s.lo = w.first.0 in
    let k : s.lo <ℤ s.hi = r.0 in
    record {
      place = s.hi;
      first = (r.1, r.2);
      second = (q.1, q.2);
      row = w.row;
      pen = drawn_up w.place s.hi begun row (omega (arith, ints)) w.pen;
      on = w.on;
      below = λ x h.
          by_lt_z x w.place
          (λ m. w.below x m)
          (λ m.
          drawn_on w.place begun row x w.pen m
          ∙ ((w.on ∙ keeps_none op)
          ∙ sym ((λ i. joined op (w.ahead_first x m i) (w.ahead_second x m i)) ∙ both_or_none op s ss ts x n r q h)));
      ahead_first = λ x h. w.ahead_first x (omega (arith, ints)) ∙ has_past s ss x h;
      ahead_second = λ x h. w.ahead_second x (omega (arith, ints)) ∙ has_past s ts x h;
    }

skip_all : (op : Operation) (a b : List Span) (count : ℕ) (ss ts row : List Span) (begun : Option ℤ) → joined op true true ≡ false → take count ss ≡ take count ts → count ≤ length ss → count ≤ length ts → IsWalk op a b (outside ss ts row begun) → IsWalk op a b (outside (drop count ss) (drop count ts) row begun)
skip_all op a b zero ss ts row begun n e h k w = w
skip_all op a b (suc count) [] ts row begun n e h k w = absurd (omega arith)
skip_all op a b (suc count) (s ∷ ss) [] row begun n e h k w = absurd (omega arith)
skip_all op a b (suc count) (s ∷ ss) (t ∷ ts) row begun n e h k w =
    let same : s ≡ t = cc in
    let rest : take count ss ≡ take count ts = cc in
    skip_all op a b count ss ts row begun n rest (omega arith) (omega arith)
    (skip_one op a b s ss ts row begun n (subst (λ u. IsWalk op a b (outside (s ∷ ss) (u ∷ ts) row begun)) (sym same) w))

pub skipped : (op : Operation) (a b : List Span) (walk : Walk) (first' second' : Rest) → Skips op walk.first walk.second first' second' → IsWalk op a b walk → IsWalk op a b (record walk { first = first'; second = second' })
skipped op a b walk first' second' s w =
    elim s.none [
      | inl e ↦
          let p = s.left.0 ∙ ap (λ n. drop n walk.first.spans) e in
          let q = s.left.1 ∙ ap (λ n. drop n walk.second.spans) e in
          subst (IsWalk op a b) (λ i. record walk { first = record { inside = sym s.inside.0 i; spans = sym p i }; second = record { inside = sym s.inside.1 i; spans = sym q i } }) w
      | inr k ↦
          let w1 : IsWalk op a b (outside walk.first.spans walk.second.spans walk.row walk.begun) =
          subst (IsWalk op a b) (λ i. record walk { first = record { inside = k.0 i; spans = walk.first.spans }; second = record { inside = k.1 i; spans = walk.second.spans } }) w in
          let f = s.inside.0 ∙ k.0 in
          let g = s.inside.1 ∙ k.1 in
          subst (IsWalk op a b) (λ i. record walk { first = record { inside = sym f i; spans = sym s.left.0 i }; second = record { inside = sym g i; spans = sym s.left.1 i } })
          (skip_all op a b s.count walk.first.spans walk.second.spans walk.row walk.begun k.2 s.same s.within.0 s.within.1 w1)
    ]

pub fewer_dropped : (n : ℕ) (ss : List Span) → ends_left false (drop n ss) ≤ ends_left false ss
fewer_dropped zero ss = omega arith
fewer_dropped (suc n) [] = omega arith
fewer_dropped (suc n) (s ∷ ss) = omega (arith, fewer_dropped n ss, all_left ss)

-- a cursor that went past spans has no more ends before it
pub dropped_no_more : (count : ℕ) (old new : Rest) → (count ≡ 0) ⊎ (old.inside ≡ false) → new.inside ≡ old.inside → new.spans ≡ drop count old.spans → ends_left new.inside new.spans ≤ ends_left old.inside old.spans
dropped_no_more count old new none e f =
    let h : ends_left new.inside new.spans ≡ ends_left old.inside (drop count old.spans) = λ i. ends_left (e i) (f i) in
    elim none [
      | inl z ↦ let g : ends_left old.inside (drop count old.spans) ≡ ends_left old.inside old.spans = ap (λ n. ends_left old.inside (drop n old.spans)) z in omega (arith, h, g)
      | inr o ↦
          let g : ends_left old.inside (drop count old.spans) ≡ ends_left false (drop count old.spans) = ap (λ t. ends_left t (drop count old.spans)) o in
          let k : ends_left old.inside old.spans ≡ ends_left false old.spans = ap (λ t. ends_left t old.spans) o in
          omega (arith, h, g, k, fewer_dropped count old.spans)
    ]

pub skipped_no_more : (op : Operation) (first second first' second' : Rest) → Skips op first second first' second' → ends_left first'.inside first'.spans + ends_left second'.inside second'.spans ≤ ends_left first.inside first.spans + ends_left second.inside second.spans
skipped_no_more op first second first' second' s =
    let f = dropped_no_more s.count first first' (elim s.none [ inl e ↦ inl e | inr k ↦ inr k.0 ]) s.inside.0 s.left.0 in
    let g = dropped_no_more s.count second second' (elim s.none [ inl e ↦ inl e | inr k ↦ inr k.1 ]) s.inside.1 s.left.1 in
    omega arith
