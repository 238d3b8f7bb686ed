-- The flips on the last line of a region: where they begin, and their row.
use Rattle.std.proofs.Common.{◌≡◌, inl, inr, ℕ, suc, zero, ◌+◌, ◌<◌, length, take, drop, get_or, ℤ, pos, ◌+ℤ◌, ◌<ℤ◌, ◌≤ℤ◌, List, [], ◌∷◌, ◌++◌, ◌∙◌, refl, ap, add-one, sym, subst, arith}
use Rattle.std.proofs.lemmas.Int.{ints}
use Rattle.std.proofs.lemmas.List.{take-append-drop}
use Rattle.std.proofs.Math.Seq.{drop-cons, take-suc}
use Rattle.interval_row.specs.Rows.{IsRow, StandsBehind}
use Rattle.interval_row.proofs.Splits.{row_right, behind_cut}
use Rattle.region_form.specs.LineFlips.{flips_on}
use Rattle.region_form.specs.declared.flip.Flip.{Flip}
use Rattle.region_form.specs.Flips.{StandsBefore, AreSorted, AreBelow}
use Rattle.region_bands.specs.Working.LastLine.{AreOn, spans_of}

-- the flips of one line are those of their row
pub on_line : (line : ℤ) (fs : List Flip) → AreOn line fs → fs ≡ flips_on line (spans_of fs)
on_line line [] o = refl
on_line line (f ∷ fs) o =
    let e : f ≡ record { y = line; x0 = f.x0; x1 = f.x1 } = λ i. record { y = o.0 i; x0 = f.x0; x1 = f.x1 } in
    let r = on_line line fs o.1 in
    cc

pub row_of_line : (line : ℤ) (fs : List Flip) → AreSorted fs → AreOn line fs → IsRow (spans_of fs)
row_of_line line [] s o = tt
row_of_line line (f ∷ []) s o = (s.0, tt, tt)
row_of_line line (f ∷ g ∷ gs) s o =
    let p : f.y ≡ line = o.0 in
    let q : g.y ≡ line = o.1.0 in
    (s.0, elim s.1 [ inl l ↦ absurd (omega (arith, ints)) | inr t ↦ t.1 ], row_of_line line (g ∷ gs) s.2 o.1)

pub spans_append : (a b : List Flip) → spans_of (a ++ b) ≡ spans_of a ++ spans_of b
spans_append [] b = refl
spans_append (f ∷ fs) b = ap (λ v. record { lo = f.x0; hi = f.x1 } ∷ v) (spans_append fs b)

cut_at : (fs : List Flip) (n : ℕ) (d : Flip) → n < length fs → spans_of fs ≡ spans_of (take n fs) ++ (record { lo = (get_or fs n d).x0; hi = (get_or fs n d).x1 } ∷ spans_of (drop (suc n) fs))
cut_at fs n d h = ap spans_of (sym (take-append-drop n fs) ∙ ap (λ t. take n fs ++ t) (drop-cons fs n d h)) ∙ spans_append (take n fs) (get_or fs n d ∷ drop (suc n) fs)

-- the span of the flip at an index has a place and stands behind those of the flips before it
pub span_at : (fs : List Flip) (n : ℕ) (d : Flip) → n < length fs → IsRow (spans_of fs) → (get_or fs n d).x0 <ℤ (get_or fs n d).x1
span_at fs n d h r = (row_right (spans_of (take n fs)) _ (subst IsRow (cut_at fs n d h) r)).0

pub behind_at : (fs : List Flip) (n : ℕ) (d : Flip) → n < length fs → IsRow (spans_of fs) → StandsBehind (spans_of (take n fs)) (get_or fs n d).x0
behind_at fs n d h r =
    behind_cut (spans_of (take n fs)) (record { lo = (get_or fs n d).x0; hi = (get_or fs n d).x1 }) (spans_of (drop (suc n) fs)) (subst IsRow (cut_at fs n d h) r)

pub spans_more : (fs : List Flip) (n : ℕ) (d : Flip) → n < length fs → spans_of (take (n + 1) fs) ≡ spans_of (take n fs) ++ (record { lo = (get_or fs n d).x0; hi = (get_or fs n d).x1 } ∷ [])
spans_more fs n d h =
    let f : take (n + 1) fs ≡ take n fs ++ (get_or fs n d ∷ []) = rw add-one (take-suc fs n d h) in
    ap spans_of f ∙ spans_append (take n fs) (get_or fs n d ∷ [])

pub below_at : (fs : List Flip) (n : ℕ) (d : Flip) (line : ℤ) → n < length fs → AreBelow line fs → (get_or fs n d).y <ℤ line
below_at [] n d line h b = absurd (omega arith)
below_at (f ∷ fs) zero d line h b = b.0
below_at (f ∷ fs) (suc n) d line h b = below_at fs n d line (omega arith) b.1

-- one flip more on the line
pub on_from : (fs : List Flip) (n : ℕ) (d : Flip) (line : ℤ) → n < length fs → AreBelow (line +ℤ pos 1) fs → line ≤ℤ (get_or fs n d).y → AreOn line (drop (suc n) fs) → AreOn line (drop n fs)
on_from fs n d line h b l o =
    let k = below_at fs n d (line +ℤ pos 1) h b in
    let e : (get_or fs n d).y ≡ line = omega (arith, ints) in
    let p : AreOn line (get_or fs n d ∷ drop (suc n) fs) = (e, o) in
    subst (AreOn line) (sym (drop-cons fs n d h)) p

first_lower : (f g : Flip) (line : ℤ) → StandsBefore f g → g.y <ℤ line → f.y <ℤ line
first_lower f g line s h = elim s [ inl l ↦ omega (arith, ints) | inr t ↦ let e : f.y ≡ g.y = t.0 in omega (arith, ints) ]

-- the flips up to one that lies below the line
pub below_to : (fs : List Flip) (n : ℕ) (d : Flip) (line : ℤ) → n < length fs → AreSorted fs → (get_or fs n d).y <ℤ line → AreBelow line (take (suc n) fs)
below_to [] n d line h s l = absurd (omega arith)
below_to (f ∷ fs) zero d line h s l = (l, tt)
below_to (f ∷ []) (suc n) d line h s l = absurd (omega arith)
below_to (f ∷ g ∷ gs) (suc n) d line h s l =
    let r = below_to (g ∷ gs) n d line (omega arith) s.2 l in
    (first_lower f g line s.1 r.0, r)
