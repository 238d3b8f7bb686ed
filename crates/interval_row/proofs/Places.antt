-- Which places a list of spans has, beside its first span and beside its last.
use Rattle.std.proofs.Common.{◌≡◌, true, false, ◌||◌, ℤ, ◌<ℤ◌, ◌≤ℤ◌, List, [], ◌∷◌, ◌++◌, refl, ◌∙◌, ap, arith}
use Rattle.std.proofs.lemmas.Int.{ints}
use Rattle.std.proofs.lemmas.Bool.{or_left}
use Rattle.std.specs.List.{AllByRecursion}
use Rattle.list_facts.proofs.Members.{all_append, all_weaker}
use Rattle.list_facts.specs.Between.{between}
use Rattle.list_facts.proofs.Tests.{or_assoc, or_known, between_true, between_past, between_before}
use Rattle.interval_row.specs.declared.span.Span.{Span}
use Rattle.interval_row.specs.Rows.{has, BeginsAbove, IsRow, StandsBehind}

-- a place in the first span, behind it, and before it
pub has_inside : (s : Span) (ss : List Span) (x : ℤ) → s.lo ≤ℤ x → x <ℤ s.hi → has (s ∷ ss) x ≡ true
has_inside s ss x p q = or_left _ _ (between_true s.lo s.hi x p q)

pub has_past : (s : Span) (ss : List Span) (x : ℤ) → s.hi ≤ℤ x → has (s ∷ ss) x ≡ has ss x
has_past s ss x p = or_known _ _ (between_past s.lo s.hi x p)

pub has_before : (s : Span) (ss : List Span) (x : ℤ) → x <ℤ s.lo → has (s ∷ ss) x ≡ has ss x
has_before s ss x p = or_known _ _ (between_before s.lo s.hi x p)

pub begins_down : (p q : ℤ) (ss : List Span) → p ≤ℤ q → BeginsAbove q ss → BeginsAbove p ss
begins_down p q [] h b = tt
begins_down p q (s ∷ ss) h b = omega (arith, ints)

-- a row has no place below its first span
pub none_below : (ss : List Span) (x : ℤ) → IsRow ss → BeginsAbove x ss → has ss x ≡ false
none_below [] x r b = refl
none_below (s ∷ ss) x r b =
    let h : s.lo <ℤ s.hi = r.0 in
    has_before s ss x b ∙ none_below ss x r.2 (begins_down x s.hi ss (omega (arith, ints)) r.1)

-- every span ends at or below a place
abbrev pub EndsBy : List Span → ℤ → Type 0
EndsBy spans p = AllByRecursion (λ s. s.hi ≤ℤ p) spans

pub ends_up : (ss : List Span) (p q : ℤ) → p ≤ℤ q → EndsBy ss p → EndsBy ss q
ends_up ss p q h = all_weaker (λ s. s.hi ≤ℤ p) (λ s. s.hi ≤ℤ q) (λ s k. omega (arith, ints)) ss

pub ends_behind : (ss : List Span) (p q : ℤ) → p ≤ℤ q → StandsBehind ss p → EndsBy ss q
ends_behind ss p q h = all_weaker (λ s. s.hi <ℤ p) (λ s. s.hi ≤ℤ q) (λ s k. omega (arith, ints)) ss

pub behind_ends : (ss : List Span) (p q : ℤ) → p <ℤ q → EndsBy ss p → StandsBehind ss q
behind_ends ss p q h = all_weaker (λ s. s.hi ≤ℤ p) (λ s. s.hi <ℤ q) (λ s k. omega (arith, ints)) ss

pub ends_push : (ss : List Span) (t : Span) (p : ℤ) → EndsBy ss p → t.hi ≤ℤ p → EndsBy (ss ++ t ∷ []) p
ends_push ss t p e h = all_append (λ s. s.hi ≤ℤ p) ss (t ∷ []) e (h, tt)

-- there is no place behind all spans
pub none_above : (ss : List Span) (x : ℤ) → EndsBy ss x → has ss x ≡ false
none_above [] x e = refl
none_above (s ∷ ss) x e = has_past s ss x e.0 ∙ none_above ss x e.1

pub has_append : (a b : List Span) (x : ℤ) → has (a ++ b) x ≡ (has a x || has b x)
has_append [] b x = refl
has_append (s ∷ ss) b x =
    ap (λ v. between s.lo s.hi x || v) (has_append ss b x) ∙ or_assoc (between s.lo s.hi x) (has ss x) (has b x)

begins_push : (p : ℤ) (ss : List Span) (t : Span) → BeginsAbove p ss → p <ℤ t.lo → BeginsAbove p (ss ++ t ∷ [])
begins_push p [] t b h = h
begins_push p (s ∷ ss) t b h = b

-- a span behind a row makes a row
pub row_push : (ss : List Span) (t : Span) → IsRow ss → StandsBehind ss t.lo → t.lo <ℤ t.hi → IsRow (ss ++ t ∷ [])
row_push [] t r b h = (h, tt, tt)
row_push (s ∷ ss) t r b h = (r.0, begins_push s.hi ss t r.1 b.0, row_push ss t r.2 b.1 h)
