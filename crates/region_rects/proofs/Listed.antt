-- Canonical rectangles that cover the squares of a set are all that it has.
use Rattle.std.proofs.Common.{◌≡◌, true, ℤ, pos, ◌-ℤ◌, ◌<ℤ◌, ◌≤ℤ◌, List, sym, subst, ◌∙◌, arith}
use Rattle.std.proofs.lemmas.Int.{ints, by_lt_z}
use Rattle.std.specs.Cmp.{first_so, second_so}
use Rattle.std.specs.List.{AllByRecursion}
use Rattle.list_facts.specs.Between.{between}
use Rattle.list_facts.proofs.Members.{Has, has_holds}
use Rattle.list_facts.proofs.Tests.{clash, from_between, up_to_between}
use Rattle.drc_geom.specs.declared.rect.Rect.{Rect}
use Rattle.drc_geom.specs.Squares.{Squares, covered, squares_of}
use Rattle.region_rects.specs.Canonical.{IsCanonical, IsStretch}
use Rattle.region_rects.proofs.Permuted.{covered_by}

-- the same of a set that has the same squares
stretch_same : (s t : Squares) (y x0 x1 : ℤ) → ((x y : ℤ) → s x y ≡ t x y) → IsStretch s y x0 x1 → IsStretch t y x0 x1
stretch_same s t y x0 x1 e st =
    record {
      wide = st.wide;
      inside = λ x p q. sym (e x y) ∙ st.inside x p q;
      before = sym (e (x0 -ℤ pos 1) y) ∙ st.before;
      behind = sym (e x1 y) ∙ st.behind;
    }

pub canonical_same : (s t : Squares) (r : Rect) → ((x y : ℤ) → s x y ≡ t x y) → IsCanonical s r → IsCanonical t r
canonical_same s t r e c =
    record {
      high = c.high;
      rows = λ y p q. stretch_same s t y r.x0 r.x1 e (c.rows y p q);
      below = λ st. c.below (stretch_same t s (r.y0 -ℤ pos 1) r.x0 r.x1 (λ x y. sym (e x y)) st);
      above = λ st. c.above (stretch_same t s r.y1 r.x0 r.x1 (λ x y. sym (e x y)) st);
    }

-- two stretches of a row that have one column are one
stretches_meet : (s : Squares) (y a b c d x : ℤ) → IsStretch s y a b → IsStretch s y c d → a ≤ℤ x → x <ℤ b → c ≤ℤ x → x <ℤ d → (a ≡ c) × (b ≡ d)
stretches_meet s y a b c d x p q al bl cl dl = (
  by_lt_z a c
      (λ l. clash (s (c -ℤ pos 1) y) (p.inside (c -ℤ pos 1) (omega (arith, ints)) (omega (arith, ints))) q.before)
      (λ l. by_lt_z c a
      (λ m. clash (s (a -ℤ pos 1) y) (q.inside (a -ℤ pos 1) (omega (arith, ints)) (omega (arith, ints))) p.before)
      (λ m. omega (arith, ints))),
  by_lt_z b d
      (λ l. clash (s b y) (q.inside b (omega (arith, ints)) l) p.behind)
      (λ l. by_lt_z d b
      (λ m. clash (s d y) (p.inside d (omega (arith, ints)) m) q.behind)
      (λ m. omega (arith, ints))),
)

rect_equal : (r s : Rect) → r.x0 ≡ s.x0 → r.y0 ≡ s.y0 → r.x1 ≡ s.x1 → r.y1 ≡ s.y1 → r ≡ s
rect_equal r s a b c d i = record { x0 = a i; y0 = b i; x1 = c i; y1 = d i }

-- one that has the lower left square of another is that one
canonical_meet : (set : Squares) (r s : Rect) → IsCanonical set r → IsCanonical set s → squares_of s r.x0 r.y0 ≡ true → r ≡ s
canonical_meet set r s c d e =
    let across = first_so (between s.x0 s.x1 r.x0) (between s.y0 s.y1 r.y0) e in
    let up = second_so (between s.x0 s.x1 r.x0) (between s.y0 s.y1 r.y0) e in
    let y0 : s.y0 ≤ℤ r.y0 = from_between s.y0 s.y1 r.y0 up in
    let y1 : r.y0 <ℤ s.y1 = up_to_between s.y0 s.y1 r.y0 up in
    let high = c.high in
    let mine = c.rows r.y0 (omega (arith, ints)) high in
    let wide = mine.wide in
    let ends = stretches_meet set r.y0 r.x0 r.x1 s.x0 s.x1 r.x0 mine (d.rows r.y0 y0 y1) (omega (arith, ints)) wide (from_between s.x0 s.x1 r.x0 across) (up_to_between s.x0 s.x1 r.x0 across) in
    let mine_at = λ (y : ℤ) (st : IsStretch set y s.x0 s.x1). subst (λ b. IsStretch set y r.x0 b) (sym ends.1) (subst (λ a. IsStretch set y a s.x1) (sym ends.0) st) in
    let its_at = λ (y : ℤ) (st : IsStretch set y r.x0 r.x1). subst (λ b. IsStretch set y s.x0 b) ends.1 (subst (λ a. IsStretch set y a r.x1) ends.0 st) in
    rect_equal r s ends.0
    (by_lt_z s.y0 r.y0
    (λ l. absurd (c.below (mine_at (r.y0 -ℤ pos 1) (d.rows (r.y0 -ℤ pos 1) (omega (arith, ints)) (omega (arith, ints))))))
    (λ l. omega (arith, ints)))
    ends.1
    (by_lt_z r.y1 s.y1
    (λ l. absurd (c.above (mine_at r.y1 (d.rows r.y1 (omega (arith, ints)) l))))
    (λ l. by_lt_z s.y1 r.y1
    (λ m. absurd (d.above (its_at s.y1 (c.rows s.y1 (omega (arith, ints)) m))))
    (λ m. omega (arith, ints))))

pub every_listed : (set : Squares) (rects : List Rect) (r : Rect) → AllByRecursion (IsCanonical set) rects → ((x y : ℤ) → covered rects x y ≡ set x y) → IsCanonical set r → Has rects r
every_listed set rects r all cover c =
    let high = c.high in
    let mine = c.rows r.y0 (omega (arith, ints)) high in
    let wide = mine.wide in
    let by = covered_by rects r.x0 r.y0 (cover r.x0 r.y0 ∙ mine.inside r.x0 (omega (arith, ints)) wide) in
    subst (Has rects) (sym (canonical_meet set r by.rect c (has_holds (IsCanonical set) rects by.rect all by.listed) by.has)) by.listed
