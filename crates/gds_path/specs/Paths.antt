-- Which squares a path covers: those of the rectangles of its segments. The points that make its segments are left when
-- each point that equals the one before it is dropped, and then each inner point at which the direction doesn't change.
--
--      |<- before ->|                |<- behind ->|         The rectangle of a segment from a to b goes half a width to
--      +------------------------------------------+         both sides, and at both ends as far beyond the points as it
--      |            a ------------>-- b           |         is lengthened: by half a width at a corner, and at the two
--      +------------------------------------------+         ends of the path as its ends say. A rectangle without an
--                                                           area covers nothing.
use Rattle.std.specs.Prelude.{◌≡◌, ℕ, ◌^◌, ◌≤◌, nat_le, ◌==◌, ◌&&◌, Bool, false, if◌then◌else◌, List, [], ◌∷◌, ◌++◌, ℤ, pos, ◌+ℤ◌, ◌-ℤ◌, int_lt, unsigned_abs}
use Rattle.std.specs.Ordering.{int_eq}
use Rattle.std.specs.List.{list_all}
use Rattle.drc_geom.specs.declared.point.Pt.{Pt}
use Rattle.drc_geom.specs.declared.rect.Rect.{Rect}
use Rattle.drc_geom.specs.declared.unit.Side.{Side}
use Rattle.drc_geom.specs.declared.unit.Side.TheVariants.{N, E, S, W}
use Rattle.drc_geom.specs.Runs.{side_rank}
use Rattle.drc_geom.specs.Squares.{Squares, covered}
use Rattle.gds_path.specs.declared.stroke.Ends.{Ends}
use Rattle.gds_path.specs.declared.stroke.Ends.TheVariants as ends
use Rattle.gds_path.specs.declared.stroke.Stroke.{Stroke}
use Rattle.gds_path.specs.declared.fault.PathFault.{PathFault}
use Rattle.gds_path.specs.declared.fault.PathFault.TheVariants as faults

-- ---- Points

abbrev pub is_same : (a b : Pt) → Bool
is_same a b = int_eq a.x b.x && int_eq a.y b.y

-- what is left of the points behind a when each that equals the one before it is dropped
abbrev pub distinct : (a : Pt) → List Pt → List Pt
distinct a [] = []
distinct a (b ∷ points) = if is_same a b then distinct a points else b ∷ distinct b points

-- the direction from a to b, by the compass
abbrev pub heading : (a b : Pt) → Side
heading a b =
    if int_eq a.y b.y then (if int_lt a.x b.x then E else W)
    else (if int_lt a.y b.y then N else S)

-- from a through b to c the direction doesn't change
abbrev pub goes_on : (a b c : Pt) → Bool
goes_on a b c = side_rank (heading a b) == side_rank (heading b c)

-- what is left of the points behind a when each inner point at which the direction doesn't change is dropped
abbrev pub corners : (a : Pt) → List Pt → List Pt
corners a [] = []
corners a (b ∷ []) = b ∷ []
corners a (b ∷ c ∷ points) = if goes_on a b c then corners b (c ∷ points) else b ∷ corners b (c ∷ points)

-- ---- Rectangles

-- as far to both sides as half a width, and beyond a and b as said
abbrev pub rect_of : Side → (half_width before behind : ℤ) → (a b : Pt) → Rect
rect_of E half_width before behind a b =
    record { x0 = a.x -ℤ before; y0 = a.y -ℤ half_width; x1 = b.x +ℤ behind; y1 = a.y +ℤ half_width }
rect_of W half_width before behind a b =
    record { x0 = b.x -ℤ behind; y0 = a.y -ℤ half_width; x1 = a.x +ℤ before; y1 = a.y +ℤ half_width }
rect_of N half_width before behind a b =
    record { x0 = a.x -ℤ half_width; y0 = a.y -ℤ before; x1 = a.x +ℤ half_width; y1 = b.y +ℤ behind }
rect_of S half_width before behind a b =
    record { x0 = a.x -ℤ half_width; y0 = b.y -ℤ behind; x1 = a.x +ℤ half_width; y1 = a.y +ℤ before }

-- the rectangle, if it has an area
abbrev pub with_area : Rect → List Rect
with_area r = if int_lt r.x0 r.x1 && int_lt r.y0 r.y1 then r ∷ [] else []

abbrev pub segment : (half_width before behind : ℤ) → (a b : Pt) → List Rect
segment half_width before behind a b = with_area (rect_of (heading a b) half_width before behind a b)

-- the rectangles from a on, whose first is lengthened so at a, and whose last so at the last of these points
abbrev pub segments : (half_width before last : ℤ) → (a : Pt) → List Pt → List Rect
segments half_width before last a [] = []
segments half_width before last a (b ∷ []) = segment half_width before last a b
segments half_width before last a (b ∷ c ∷ points) =
    segment half_width before half_width a b ++ segments half_width half_width last b (c ∷ points)

-- ---- Paths

-- how far a path goes beyond its first point, and beyond its last
abbrev pub before_first : Stroke → ℤ
before_first stroke = elim stroke.ends [ ends.Flush ↦ pos 0 | ends.Square ↦ stroke.half_width | ends.Extended extension ↦ extension.begin ]

abbrev pub behind_last : Stroke → ℤ
behind_last stroke = elim stroke.ends [ ends.Flush ↦ pos 0 | ends.Square ↦ stroke.half_width | ends.Extended extension ↦ extension.end ]

-- the rectangles of a path, segment by segment
abbrev pub rects_of : Stroke → List Pt → List Rect
rects_of stroke [] = []
rects_of stroke (a ∷ points) =
    segments stroke.half_width (before_first stroke) (behind_last stroke) a (corners a (distinct a points))

-- the squares that a path covers
abbrev pub path_squares : Stroke → List Pt → Squares
path_squares stroke points = covered (rects_of stroke points)

-- ---- Ranges

-- all sides of the rectangle lie within -2^30 to 2^30
abbrev pub is_reached : ℤ → Bool
is_reached z = nat_le (unsigned_abs z) (2 ^ 30)

abbrev pub is_within : Rect → Bool
is_within r = is_reached r.x0 && (is_reached r.x1 && (is_reached r.y0 && is_reached r.y1))

-- why a path of these rectangles isn't drawn: one of them lies out of range. For want of memory there is no reason.
abbrev pub IsFault : PathFault → List Rect → Type 0
IsFault faults.OutOfRange rects = list_all is_within rects ≡ false
IsFault faults.Memory rects = Unit {0}

-- it can be reckoned with
abbrev pub IsMeasured : ℤ → Type 0
IsMeasured z = unsigned_abs z ≤ 2 ^ 61

pub record IsMeasuredPoint (p : Pt) : Type 0 where
  pub x : IsMeasured p.x
  pub y : IsMeasured p.y

pub record IsDrawable (stroke : Stroke) : Type 0 where
  pub half_width : IsMeasured stroke.half_width
  pub before_first : IsMeasured (before_first stroke)
  pub behind_last : IsMeasured (behind_last stroke)
