-- A walk that goes past spans of the first row before the next end in the second.
use Rattle.std.proofs.Common.{◌≡◌, inl, inr, Bool, true, false, cond, ◌||◌, ◌&&◌, ℕ, zero, suc, ◌+◌, ◌<◌, ◌≤◌, length, take, drop, get_or, ℤ, ◌<ℤ◌, Option, None, Some, List, [], ◌∷◌, ◌++◌, refl, sym, subst, ◌∙◌, ap, append_assoc, append-nil, add-one, arith}
use Rattle.std.proofs.lemmas.Int.{ints, by_lt_z}
use Rattle.std.proofs.lemmas.List.{take-append-drop}
use Rattle.std.proofs.Math.Seq.{take-suc}
use mathlib.Core.Bool.{true≢false}
use Rattle.list_facts.proofs.Members.{all_append}
use Rattle.interval_row.specs.Working.Operations.{joined}
use Rattle.interval_row.specs.declared.span.Span.{Span}
use Rattle.interval_row.specs.declared.operation.Operation.{Operation}
use Rattle.interval_row.specs.Rows.{has, BeginsAbove, IsRow, StandsBehind}
use Rattle.interval_row.specs.Working.Walk.{EndBefore, PassesAlone, Rest, Walk, next_end, outside}
use Rattle.interval_row.proofs.Places.{has_inside, has_past, has_before, has_append, none_below, none_above, begins_down, ends_up, ends_push, behind_ends, row_push, EndsBy}
use Rattle.interval_row.proofs.Splits.{row_left}
use Rattle.interval_row.proofs.Ends.{ends_left}
use Rattle.interval_row.proofs.Walks.{IsWalk, keeps_none, none_begun}
use Rattle.interval_row.proofs.Skipping.{dropped_no_more}

-- one more span that ends below a place
pub behind_more : (ss : List Span) (n : ℕ) (d : Span) (p : ℤ) → n < length ss → StandsBehind (take n ss) p → (get_or ss n d).hi <ℤ p → StandsBehind (take (n + 1) ss) p
behind_more ss n d p l h k =
    let f : take (n + 1) ss ≡ take n ss ++ (get_or ss n d ∷ []) = rw add-one (take-suc ss n d l) in
    subst (λ v. StandsBehind v p) (sym f) (all_append (λ s. s.hi <ℤ p) (take n ss) (get_or ss n d ∷ []) h (k, tt))

-- a row that is cut short
pub row_front : (a b : List Span) (n : ℕ) → IsRow (a ++ b) → IsRow (a ++ take n b)
row_front a b n r =
    row_left (a ++ take n b) (drop n b)
    (subst IsRow (ap (λ v. a ++ v) (sym (take-append-drop n b)) ∙ sym (append_assoc a (take n b) (drop n b))) r)

-- what the pen draws of spans that the first row alone has
abbrev pub kept : Operation → List Span → List Span
kept op spans = cond (joined op true false) spans []

row_kept : (b : Bool) (s : Span) (spans : List Span) → IsRow spans → StandsBehind spans s.lo → s.lo <ℤ s.hi → IsRow (spans ++ cond b (s ∷ []) [])
row_kept true s spans r h k = row_push spans s r h k
row_kept false s spans r h k = subst IsRow (sym (append-nil spans)) r

ends_kept : (b : Bool) (s : Span) (spans : List Span) → EndsBy spans s.hi → EndsBy (spans ++ cond b (s ∷ []) []) s.hi
ends_kept true s spans h = ends_push spans s s.hi h (omega (arith, ints))
ends_kept false s spans h = subst (λ v. EndsBy v s.hi) (sym (append-nil spans)) h

-- a place that the span has is drawn if it is kept, and one that it hasn't is drawn as before
has_kept : (b : Bool) (s : Span) (spans : List Span) (x : ℤ) → has (spans ++ cond b (s ∷ []) []) x ≡ (has spans x || (b && has (s ∷ []) x))
has_kept true s spans x = has_append spans (s ∷ []) x
has_kept false s spans x = has_append spans [] x

or_none : (p b q : Bool) → q ≡ false → (p || (b && q)) ≡ p
or_none true b q e = refl
or_none false true q e = e
or_none false false q e = refl

or_all : (p b q : Bool) → p ≡ false → q ≡ true → (p || (b && q)) ≡ b
or_all false true q e f = f
or_all false false q e f = refl
or_all true b q e f = absurd (true≢false e)

-- below the end of a span that the first row alone has, the pen has drawn what is kept
alone_below : (op : Operation) (s : Span) (ss ts spans : List Span) (x : ℤ) → IsRow (s ∷ ss) → IsRow ts → BeginsAbove s.hi ts → has spans x ≡ false → x <ℤ s.hi → has (spans ++ kept op (s ∷ [])) x ≡ joined op (has (s ∷ ss) x) (has ts x)
alone_below op s ss ts spans x r q u n h =
    let b = joined op true false in
    let k : s.lo <ℤ s.hi = r.0 in
    let f : has ts x ≡ false = none_below ts x q (begins_down x s.hi ts (omega (arith, ints)) u) in
    by_lt_z x s.lo
    (λ l.
    has_kept b s spans x
    ∙ (or_none (has spans x) b (has (s ∷ []) x) (has_before s [] x l)
    ∙ (n ∙ sym (ap (λ t. joined op t (has ts x)) (none_below (s ∷ ss) x r l) ∙ (ap (λ t. joined op false t) f ∙ keeps_none op)))))
    (λ l.
    has_kept b s spans x
    ∙ (or_all (has spans x) b (has (s ∷ []) x) n (has_inside s [] x l h)
    ∙ sym (ap (λ t. joined op t (has ts x)) (has_inside s ss x l h) ∙ ap (λ t. joined op true t) f)))

alone_one : (op : Operation) (a b : List Span) (s : Span) (ss ts spans : List Span) → BeginsAbove s.hi ts → IsWalk op a b (outside (s ∷ ss) ts spans None) → IsWalk op a b (outside ss ts (spans ++ kept op (s ∷ [])) None)
alone_one op a b s ss ts spans u w =
    let r : IsRow (s ∷ ss) = w.first.1 in
    let l : w.place <ℤ s.lo = w.first.0 in
    let k : s.lo <ℤ s.hi = r.0 in
    let e : EndsBy spans w.place = w.pen in
    record {
      place = s.hi;
      first = (r.1, r.2);
      second = (u, w.second.1);
      row = row_kept (joined op true false) s spans w.row (behind_ends spans w.place s.lo l e) k;
      pen = ends_kept (joined op true false) s spans (ends_up spans w.place s.hi (omega (arith, ints)) e);
      on = w.on;
      below = λ x h.
          by_lt_z x w.place
          (λ m.
          has_kept (joined op true false) s spans x
          ∙ (or_none (has spans x) (joined op true false) (has (s ∷ []) x) (has_before s [] x (omega (arith, ints)))
          ∙ w.below x m))
          (λ m.
          alone_below op s ss ts spans x r w.second.1 u (none_above spans x (ends_up spans w.place x m e)) h
          ∙ sym (λ i. joined op (w.ahead_first x m i) (w.ahead_second x m i)));
      ahead_first = λ x h. w.ahead_first x (omega (arith, ints)) ∙ has_past s ss x h;
      ahead_second = λ x h. w.ahead_second x (omega (arith, ints));
    }

-- ---- spans one after another

begins_before : (s : Span) (ss ts : List Span) → EndBefore (next_end false ts) (s ∷ ss) → BeginsAbove s.hi ts
begins_before s ss [] h = tt
begins_before s ss (t ∷ ts) h = h.0

ends_before_rest : (place : Option ℤ) (s : Span) (ss : List Span) → EndBefore place (s ∷ ss) → EndBefore place ss
ends_before_rest None s ss h = tt
ends_before_rest (Some p) s ss h = h.1

kept_more : (b : Bool) (s : Span) (ss spans : List Span) → (spans ++ cond b (s ∷ []) []) ++ cond b ss [] ≡ spans ++ cond b (s ∷ ss) []
kept_more true s ss spans = append_assoc spans (s ∷ []) ss
kept_more false s ss spans = append-nil (spans ++ [])

nothing_kept : (b : Bool) (spans : List Span) → spans ++ cond b [] [] ≡ spans
nothing_kept true spans = append-nil spans
nothing_kept false spans = append-nil spans

alone_all : (op : Operation) (a b : List Span) (count : ℕ) (ss ts row : List Span) → count ≤ length ss → EndBefore (next_end false ts) (take count ss) → IsWalk op a b (outside ss ts row None) → IsWalk op a b (outside (drop count ss) ts (row ++ kept op (take count ss)) None)
alone_all op a b zero ss ts row h e w = subst (λ v. IsWalk op a b (outside ss ts v None)) (sym (nothing_kept (joined op true false) row)) w
alone_all op a b (suc count) [] ts row h e w = absurd (omega arith)
alone_all op a b (suc count) (s ∷ ss) ts row h e w =
    subst (λ v. IsWalk op a b (outside (drop count ss) ts v None)) (kept_more (joined op true false) s (take count ss) row)
    (alone_all op a b count ss ts (row ++ kept op (s ∷ [])) (omega arith) (ends_before_rest (next_end false ts) s (take count ss) e)
    (alone_one op a b s ss ts row (begins_before s (take count ss) ts e) w))

-- ---- the step of a walk

-- outside of all spans nothing is begun
outside_all : (op : Operation) (a b : List Span) (walk : Walk) → walk.first.inside ≡ false → walk.second.inside ≡ false → IsWalk op a b walk → (walk.begun ≡ None) × IsWalk op a b (outside walk.first.spans walk.second.spans walk.row None)
outside_all op a b walk e f w =
    let n = none_begun walk.begun (w.on ∙ ((λ i. joined op (e i) (f i)) ∙ keeps_none op)) in (
      n,
      subst (IsWalk op a b) (λ i. record { first = record { inside = e i; spans = walk.first.spans }; second = record { inside = f i; spans = walk.second.spans }; row = walk.row; begun = n i }) w,
    )

-- the walk with another first cursor and pen, where the second stands still
abbrev pub moved : Walk → Rest → List Span → Option ℤ → Walk
moved walk first row begun = record { first = first; second = walk.second; row = row; begun = begun }

pub passed_alone : (op : Operation) (a b : List Span) (walk : Walk) (first' : Rest) (row' : List Span) (begun' : Option ℤ) → PassesAlone op walk (moved walk first' row' begun') → IsWalk op a b walk → IsWalk op a b (moved walk first' row' begun')
passed_alone op a b walk first' row' begun' p w =
    elim p.none [
      | inl e ↦
          let l = p.left ∙ ap (λ n. drop n walk.first.spans) e in
          let d = p.drawn ∙ (ap (λ n. walk.row ++ kept op (take n walk.first.spans)) e ∙ nothing_kept (joined op true false) walk.row) in
          subst (IsWalk op a b) (λ i. moved walk (record { inside = sym p.inside i; spans = sym l i }) (sym d i) (sym p.same i)) w
      | inr k ↦
          let o = outside_all op a b walk k.0 k.1 w in
          let e = subst (λ t. EndBefore (next_end t walk.second.spans) (take p.count walk.first.spans)) k.1 k.2 in
          let f = p.inside ∙ k.0 in
          let g = p.same ∙ o.0 in
          subst (IsWalk op a b) (λ i. record { first = record { inside = sym f i; spans = sym p.left i }; second = record { inside = sym k.1 i; spans = walk.second.spans }; row = sym p.drawn i; begun = sym g i })
          (alone_all op a b p.count walk.first.spans walk.second.spans walk.row p.within e o.1)
    ]

pub passed_no_more : (op : Operation) (old new : Walk) → PassesAlone op old new → ends_left new.first.inside new.first.spans ≤ ends_left old.first.inside old.first.spans
passed_no_more op old new p =
    dropped_no_more p.count old.first new.first (elim p.none [ inl e ↦ inl e | inr k ↦ inr k.0 ]) p.inside p.left

row_join : (spans ss : List Span) (p : ℤ) → IsRow spans → EndsBy spans p → BeginsAbove p ss → IsRow ss → IsRow (spans ++ ss)
row_join [] ss p r e u q = q
row_join (s ∷ []) ss p r e u q = (r.0, begins_down s.hi p ss e.0 u, q)
row_join (s ∷ t ∷ spans) ss p r e u q = (r.0, r.1, row_join (t ∷ spans) ss p r.2 e.1 u q)

-- outside of all spans, what is left of the first row stands behind what is drawn
pub row_ahead : (op : Operation) (a b : List Span) (walk : Walk) → IsWalk op a b walk → walk.first.inside ≡ false → walk.second.inside ≡ false → IsRow (walk.row ++ walk.first.spans)
row_ahead op a b walk w e f =
    let o = (outside_all op a b walk e f w).1 in
    row_join walk.row walk.first.spans o.place o.row o.pen o.first.0 o.first.1
