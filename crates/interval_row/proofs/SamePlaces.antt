-- Two rows that have the same places are the same list of spans.
use Rattle.std.proofs.Common.{◌≡◌, ℤ, ◌<ℤ◌, ◌≤ℤ◌, List, [], ◌∷◌, sym, ◌∙◌, arith}
use Rattle.std.proofs.lemmas.Int.{ints, by_lt_z}
use mathlib.Core.Bool.{true≢false}
use Rattle.list_facts.proofs.Tests.{clash_with}
use Rattle.interval_row.specs.declared.span.Span.{Span}
use Rattle.interval_row.specs.Rows.{has, IsRow}
use Rattle.interval_row.proofs.Places.{has_inside, has_past, none_below, begins_down}

-- the first span of the one row begins no lower than that of the other, and ends no lower if they begin together
begins_low : (s t : Span) (ss ts : List Span) → IsRow (s ∷ ss) → IsRow (t ∷ ts) → ((x : ℤ) → has (s ∷ ss) x ≡ has (t ∷ ts) x) → t.lo ≤ℤ s.lo
begins_low s t ss ts r q h =
    let k : s.lo <ℤ s.hi = r.0 in
    by_lt_z s.lo t.lo
    (λ l. clash_with _ _ (h s.lo) (has_inside s ss s.lo (omega (arith, ints)) k) (none_below (t ∷ ts) s.lo q l))
    (λ l. l)

ends_low : (s t : Span) (ss ts : List Span) → IsRow (s ∷ ss) → s.lo ≡ t.lo → ((x : ℤ) → has (s ∷ ss) x ≡ has (t ∷ ts) x) → t.hi ≤ℤ s.hi
ends_low s t ss ts r e h =
    let k : s.lo <ℤ s.hi = r.0 in
    by_lt_z s.hi t.hi
    (λ l. clash_with _ _ (sym (h s.hi)) (has_inside t ts s.hi (omega (arith, ints)) l) (has_past s ss s.hi (omega (arith, ints)) ∙ none_below ss s.hi r.2 r.1))
    (λ l. l)

same_span : (s t : Span) → s.lo ≡ t.lo → s.hi ≡ t.hi → s ≡ t
same_span s t p q i = record { lo = p i; hi = q i }

rest_same : (s t : Span) (ss ts : List Span) → IsRow (s ∷ ss) → IsRow (t ∷ ts) → s.hi ≡ t.hi → ((x : ℤ) → has (s ∷ ss) x ≡ has (t ∷ ts) x) → (x : ℤ) → has ss x ≡ has ts x
rest_same s t ss ts r q e h x =
    by_lt_z x s.hi
    (λ l. none_below ss x r.2 (begins_down x s.hi ss (omega (arith, ints)) r.1) ∙ sym (none_below ts x q.2 (begins_down x t.hi ts (omega (arith, ints)) q.1)))
    (λ l. sym (has_past s ss x l) ∙ (h x ∙ has_past t ts x (omega (arith, ints))))

pub same_rows : (a b : List Span) → IsRow a → IsRow b → ((x : ℤ) → has a x ≡ has b x) → a ≡ b
same_rows [] [] r q h = cc
same_rows [] (t ∷ ts) r q h =
    let k : t.lo <ℤ t.hi = q.0 in
    absurd (true≢false (sym (has_inside t ts t.lo (omega (arith, ints)) k) ∙ sym (h t.lo)))
same_rows (s ∷ ss) [] r q h =
    let k : s.lo <ℤ s.hi = r.0 in
    absurd (true≢false (sym (has_inside s ss s.lo (omega (arith, ints)) k) ∙ h s.lo))
same_rows (s ∷ ss) (t ∷ ts) r q h =
    let l1 = begins_low s t ss ts r q h in
    let l2 = begins_low t s ts ss q r (λ x. sym (h x)) in
    let lo : s.lo ≡ t.lo = omega (arith, ints) in
    let l3 = ends_low s t ss ts r lo h in
    let l4 = ends_low t s ts ss q (sym lo) (λ x. sym (h x)) in
    let hi : s.hi ≡ t.hi = omega (arith, ints) in
    let e : s ≡ t = same_span s t lo hi in
    let f : ss ≡ ts = same_rows ss ts r.2 q.2 (rest_same s t ss ts r q hi h) in
    cc
