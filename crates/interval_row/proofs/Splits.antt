-- A row that is cut at one of its spans: on either side of the span only that side has places.
use Rattle.std.proofs.Common.{◌≡◌, true, false, ◌||◌, ℕ, suc, ◌+◌, ◌<◌, length, take, drop, get_or, ℤ, ◌<ℤ◌, ◌≤ℤ◌, List, [], ◌∷◌, ◌++◌, ◌∙◌, refl, ap, sym, subst, add-one, arith}
use Rattle.std.proofs.lemmas.Int.{ints}
use Rattle.std.proofs.lemmas.List.{take-append-drop}
use Rattle.std.proofs.Math.Seq.{drop-cons, take-suc}
use Rattle.std.proofs.lemmas.Bool.{or_right}
use Rattle.list_facts.specs.Between.{between}
use Rattle.list_facts.proofs.Tests.{or_known, or_right_known}
use Rattle.interval_row.specs.declared.span.Span.{Span}
use Rattle.interval_row.specs.Rows.{has, BeginsAbove, IsRow, StandsBehind}
use Rattle.interval_row.proofs.Places.{has_inside, has_past, has_append, none_below, none_above, ends_behind, EndsBy, ends_push}

begins_left : (p : ℤ) (l m : List Span) → BeginsAbove p (l ++ m) → BeginsAbove p l
begins_left p [] m b = tt
begins_left p (s ∷ l) m b = b

pub row_left : (l m : List Span) → IsRow (l ++ m) → IsRow l
row_left [] m r = tt
row_left (s ∷ l) m r = (r.0, begins_left s.hi l m r.1, row_left l m r.2)

pub row_right : (l m : List Span) → IsRow (l ++ m) → IsRow m
row_right [] m r = r
row_right (s ∷ l) m r = row_right l m r.2

pub behind_cut : (l : List Span) (t : Span) (m : List Span) → IsRow (l ++ t ∷ m) → StandsBehind l t.lo
behind_cut [] t m r = tt
behind_cut (s ∷ []) t m r = (r.1, tt)
behind_cut (s ∷ u ∷ l) t m r =
    let h = behind_cut (u ∷ l) t m r.2 in
    let h0 : u.hi <ℤ t.lo = h.0 in
    let h1 : s.hi <ℤ u.lo = r.1 in
    let h2 : u.lo <ℤ u.hi = r.2.0 in
    (omega (arith, ints), h)

pub has_left : (l : List Span) (t : Span) (m : List Span) (x : ℤ) → IsRow (l ++ t ∷ m) → x <ℤ t.lo → has (l ++ t ∷ m) x ≡ has l x
has_left l t m x r h = has_append l (t ∷ m) x ∙ or_right_known (has l x) _ (none_below (t ∷ m) x (row_right l (t ∷ m) r) h)

pub has_middle : (l : List Span) (t : Span) (m : List Span) (x : ℤ) → t.lo ≤ℤ x → x <ℤ t.hi → has (l ++ t ∷ m) x ≡ true
has_middle l t m x p q = has_append l (t ∷ m) x ∙ or_right (has l x) _ (has_inside t m x p q)

pub has_right : (l : List Span) (t : Span) (m : List Span) (x : ℤ) → IsRow (l ++ t ∷ m) → t.hi ≤ℤ x → has (l ++ t ∷ m) x ≡ has m x
has_right l t m x r h =
    let k : t.lo <ℤ t.hi = (row_right l (t ∷ m) r).0 in
    has_append l (t ∷ m) x ∙ (or_known _ _ (none_above l x (ends_behind l t.lo x (omega (arith, ints)) (behind_cut l t m r))) ∙ has_past t m x h)

cut_at : (l : List Span) (m : ℕ) (d : Span) → m < length l → l ≡ take m l ++ (get_or l m d ∷ drop (suc m) l)
cut_at l m d h = sym (take-append-drop m l) ∙ ap (λ t. take m l ++ t) (drop-cons l m d h)

-- a place in the span at an index
pub found_at : (l : List Span) (m : ℕ) (d : Span) (x : ℤ) → m < length l → (get_or l m d).lo ≤ℤ x → x <ℤ (get_or l m d).hi → true ≡ has l x
found_at l m d x h p q =
    sym (subst (λ t. has t x ≡ true) (sym (cut_at l m d h)) (has_middle (take m l) (get_or l m d) (drop (suc m) l) x p q))

-- behind the span at an index all spans up to it end
pub ends_at : (l : List Span) (m : ℕ) (d : Span) (x : ℤ) → m < length l → IsRow l → (get_or l m d).hi ≤ℤ x → EndsBy (take (m + 1) l) x
ends_at l m d x h r p =
    let t = get_or l m d in
    let c = subst IsRow (cut_at l m d h) r in
    let k : t.lo <ℤ t.hi = (row_right (take m l) (t ∷ drop (suc m) l) c).0 in
    let e = ends_push (take m l) t x (ends_behind (take m l) t.lo x (omega (arith, ints)) (behind_cut (take m l) t (drop (suc m) l) c)) p in
    let f : take (m + 1) l ≡ take m l ++ (t ∷ []) = rw add-one (take-suc l m d h) in
    subst (λ v. EndsBy v x) (sym f) e

-- a place between the spans on either side of an index
pub not_found_at : (l : List Span) (m : ℕ) (x : ℤ) → IsRow l → EndsBy (take m l) x → BeginsAbove x (drop m l) → false ≡ has l x
not_found_at l m x r e b =
    let c = subst IsRow (sym (take-append-drop m l)) r in
    let f : has (take m l ++ drop m l) x ≡ false = has_append (take m l) (drop m l) x ∙ (or_known _ _ (none_above (take m l) x e) ∙ none_below (drop m l) x (row_right (take m l) (drop m l) c) b) in
    sym (subst (λ t. has t x ≡ false) (take-append-drop m l) f)

-- the places of one span more
pub has_take_more : (l : List Span) (m : ℕ) (d : Span) (x : ℤ) → m < length l → has (take (m + 1) l) x ≡ (has (take m l) x || between (get_or l m d).lo (get_or l m d).hi x)
has_take_more l m d x h =
    let f : take (m + 1) l ≡ take m l ++ (get_or l m d ∷ []) = rw add-one (take-suc l m d h) in
    ap (λ k. has k x) f ∙ has_append (take m l) (get_or l m d ∷ []) x ∙ ap (λ k. has (take m l) x || k) (or_right_known (between (get_or l m d).lo (get_or l m d).hi x) false refl)
