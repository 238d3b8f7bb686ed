-- What a pen draws along the points of a path is what its rectangles are defined to be.
use Rattle.std.proofs.Common.{◌≡◌, refl, sym, ap, ◌∙◌, Bool, true, false, cond, not, eqb, eqb-true, ◌&&◌, ℤ, List, [], ◌∷◌, ◌++◌, Some}
use Rattle.list_facts.proofs.Tests.{by_test}
use Rattle.drc_geom.specs.declared.point.Pt.{Pt}
use Rattle.drc_geom.specs.declared.rect.Rect.{Rect}
use Rattle.drc_geom.specs.declared.unit.Side.{Side}
use Rattle.drc_geom.specs.Runs.{side_rank}
use Rattle.drc_geom.specs.RunOrder.{same_side}
use Rattle.gds_path.specs.declared.pen.Pen.{Pen}
use Rattle.gds_path.specs.declared.stroke.Stroke.{Stroke}
use Rattle.gds_path.specs.Paths.{before_first, behind_last, corners, distinct, goes_on, heading, is_same, rect_of, rects_of, segment, segments, with_area}
use Rattle.gds_path.specs.Working.Pens.{ahead, all_drawn, drawn_to, gone, moved, started, turned}
use Rattle.gds_path.proofs.Headings.{heading_on}

-- ---- Where a corner is left

by_corner : (half_width before last : ℤ) (a b : Pt) (goes : Bool) (xs ys : List Pt) (c : Pt)
    → segments half_width before last a (b ∷ xs) ≡ segment half_width before half_width a b ++ segments half_width half_width last b xs
    → segments half_width before last a (b ∷ cond goes xs (c ∷ ys)) ≡ segment half_width before half_width a b ++ segments half_width half_width last b (cond goes xs (c ∷ ys))
by_corner half_width before last a b true xs ys c h = h
by_corner half_width before last a b false xs ys c h = refl

-- some point is left behind a corner
left_corner : (half_width before last : ℤ) (a b from c : Pt) (points : List Pt)
    → segments half_width before last a (b ∷ corners from (c ∷ points)) ≡ segment half_width before half_width a b ++ segments half_width half_width last b (corners from (c ∷ points))
left_corner half_width before last a b from c [] = refl
left_corner half_width before last a b from c (d ∷ points) =
    by_corner half_width before last a b (goes_on from c d) (corners c (d ∷ points)) (corners c (d ∷ points)) c (left_corner half_width before last a b c d points)

-- ---- Where a pen goes

-- by whether a point is the one before it
by_repeat : (same turn : Bool) (here : List Rect) (rest : Pen → List Rect) (pen around straight : Pen) (wanted : List Pt → List Rect) (d e : List Pt)
    → (same ≡ true → rest pen ≡ wanted d)
    → (same ≡ false → cond turn here [] ++ rest (cond turn around straight) ≡ wanted e)
    → cond (not same && turn) here [] ++ rest (cond (not same && turn) around (cond same pen straight)) ≡ wanted (cond same d e)
by_repeat true turn here rest pen around straight wanted d e h k = h refl
by_repeat false turn here rest pen around straight wanted d e h k = k refl

-- by whether the direction stays
by_turn : (stays : Bool) (here : List Rect) (rest : Pen → List Rect) (around straight : Pen) (wanted : List Pt → List Rect) (d e : List Pt)
    → (stays ≡ true → rest straight ≡ wanted d)
    → (stays ≡ false → here ++ rest around ≡ wanted e)
    → cond (not stays) here [] ++ rest (cond (not stays) around straight) ≡ wanted (cond stays d e)
by_turn true here rest around straight wanted d e h k = h refl
by_turn false here rest around straight wanted d e h k = k refl

abbrev pen_at : (corner at : Pt) (side : Side) (before : ℤ) → Pen
pen_at corner at side before = record { corner = corner; at = at; heading = Some side; before = before }

-- a pen that came from a to b, along a segment that begins at a corner
ahead_is : (stroke : Stroke) (points : List Pt) (side : Side) (corner a b : Pt) (before : ℤ)
    → heading a b ≡ side → heading corner b ≡ side
    → ahead stroke (pen_at corner b side before) points
    ≡ segments stroke.half_width before (behind_last stroke) corner (corners a (b ∷ distinct b points))
ahead_is stroke [] side corner a b before h k =
    ap (λ s. with_area (rect_of s stroke.half_width before (behind_last stroke) corner b)) (sym k)
ahead_is stroke (p ∷ points) side corner a b before h k =
    by_repeat (is_same b p) (not (eqb (side_rank side) (side_rank (heading b p))))
    (drawn_to stroke.half_width stroke.half_width (pen_at corner b side before)) (λ pen. ahead stroke pen points)
    (pen_at corner b side before) (pen_at b p (heading b p) stroke.half_width) (pen_at corner p (heading b p) before)
    (λ those. segments stroke.half_width before (behind_last stroke) corner (corners a (b ∷ those)))
    (distinct b points) (p ∷ distinct p points)
    (λ e. ahead_is stroke points side corner a b before h k)
    (λ e.
    by_turn (eqb (side_rank side) (side_rank (heading b p)))
    (drawn_to stroke.half_width stroke.half_width (pen_at corner b side before)) (λ pen. ahead stroke pen points)
    (pen_at b p (heading b p) stroke.half_width) (pen_at corner p (heading b p) before)
    (λ those. segments stroke.half_width before (behind_last stroke) corner those)
    (corners b (p ∷ distinct p points)) (b ∷ corners b (p ∷ distinct p points))
    (λ f.
    let same : side ≡ heading b p = same_side side (heading b p) (eqb-true _ _ f) in
    ahead_is stroke points (heading b p) corner b p before refl (heading_on corner b p (k ∙ same)))
    (λ f.
    ap (λ s. with_area (rect_of s stroke.half_width before stroke.half_width corner b) ++ ahead stroke (pen_at b p (heading b p) stroke.half_width) points) (sym k)
    ∙ ap (λ rest. segment stroke.half_width before stroke.half_width corner b ++ rest) (ahead_is stroke points (heading b p) b b p stroke.half_width refl refl)
    ∙ sym (left_corner stroke.half_width before (behind_last stroke) corner b b p (distinct p points)))
    ∙ ap (λ s. segments stroke.half_width before (behind_last stroke) corner (cond (eqb (side_rank s) (side_rank (heading b p))) (corners b (p ∷ distinct p points)) (b ∷ corners b (p ∷ distinct p points)))) (sym h))

-- a pen that hasn't left the first point
by_start : (same : Bool) (rest : Pen → List Rect) (pen straight : Pen) (wanted : List Pt → List Rect) (d e : List Pt)
    → rest pen ≡ wanted d → rest straight ≡ wanted e → rest (cond same pen straight) ≡ wanted (cond same d e)
by_start true rest pen straight wanted d e h k = h
by_start false rest pen straight wanted d e h k = k

started_is : (stroke : Stroke) (points : List Pt) (a : Pt) (before : ℤ)
    → ahead stroke (started a before) points
    ≡ segments stroke.half_width before (behind_last stroke) a (corners a (distinct a points))
started_is stroke [] a before = refl
started_is stroke (p ∷ points) a before =
    by_start (is_same a p) (λ pen. ahead stroke pen points) (started a before) (record { corner = a; at = p; heading = Some (heading a p); before = before })
    (λ those. segments stroke.half_width before (behind_last stroke) a (corners a those))
    (distinct a points) (p ∷ distinct p points)
    (started_is stroke points a before) (ahead_is stroke points (heading a p) a a p before refl refl)

pub all_drawn_is : (stroke : Stroke) (points : List Pt) → all_drawn stroke points ≡ rects_of stroke points
all_drawn_is stroke [] = refl
all_drawn_is stroke (a ∷ points) = started_is stroke points a (before_first stroke)
