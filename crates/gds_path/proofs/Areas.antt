-- The rectangles of a path have areas.
use Rattle.std.proofs.Common.{◌≡◌, refl, Bool, true, false, cond, ◌&&◌, ℤ, ◌<ℤ◌, int_lt, List, [], ◌∷◌, ◌++◌}
use Rattle.std.specs.Cmp.{first_so, second_so}
use Rattle.std.specs.List.{AllByRecursion}
use Rattle.list_facts.proofs.Members.{all_append}
use Rattle.list_facts.proofs.Tests.{lt_from_true}
use Rattle.drc_geom.specs.declared.point.Pt.{Pt}
use Rattle.drc_geom.specs.declared.rect.Rect.{Rect}
use Rattle.drc_geom.specs.Squares.{IsRect}
use Rattle.gds_path.specs.declared.stroke.Stroke.{Stroke}
use Rattle.gds_path.specs.Paths.{before_first, behind_last, corners, distinct, heading, rect_of, rects_of, segment, segments, with_area}

area_if : (b : Bool) (r : Rect) → (b ≡ true → IsRect r) → AllByRecursion IsRect (cond b (r ∷ []) [])
area_if true r h = (h refl, tt)
area_if false r h = tt

area_of : (r : Rect) → AllByRecursion IsRect (with_area r)
area_of r =
    area_if (int_lt r.x0 r.x1 && int_lt r.y0 r.y1) r (λ e. record {
      wide = lt_from_true r.x0 r.x1 (first_so (int_lt r.x0 r.x1) (int_lt r.y0 r.y1) e);
      high = lt_from_true r.y0 r.y1 (second_so (int_lt r.x0 r.x1) (int_lt r.y0 r.y1) e);
    })

segments_have : (half_width before last : ℤ) (a : Pt) (points : List Pt) → AllByRecursion IsRect (segments half_width before last a points)
segments_have half_width before last a [] = tt
segments_have half_width before last a (b ∷ []) = area_of (rect_of (heading a b) half_width before last a b)
segments_have half_width before last a (b ∷ c ∷ points) =
    all_append IsRect (segment half_width before half_width a b) (segments half_width half_width last b (c ∷ points))
    (area_of (rect_of (heading a b) half_width before half_width a b)) (segments_have half_width half_width last b (c ∷ points))

pub areas_of : (stroke : Stroke) (points : List Pt) → AllByRecursion IsRect (rects_of stroke points)
areas_of stroke [] = tt
areas_of stroke (a ∷ points) =
    segments_have stroke.half_width (before_first stroke) (behind_last stroke) a (corners a (distinct a points))
