-- A pen that goes along the points of a path, and what it draws.
use Rattle.std.specs.Prelude.{Bool, false, not, ◌==◌, ◌&&◌, if◌then◌else◌, List, [], ◌∷◌, ◌++◌, ℤ, Option, Some, None}
use Rattle.drc_geom.specs.declared.point.Pt.{Pt}
use Rattle.drc_geom.specs.declared.rect.Rect.{Rect}
use Rattle.drc_geom.specs.declared.unit.Side.{Side}
use Rattle.drc_geom.specs.Runs.{side_rank}
use Rattle.gds_path.specs.declared.pen.Pen.{Pen}
use Rattle.gds_path.specs.declared.stroke.Stroke.{Stroke}
use Rattle.gds_path.specs.Paths.{IsMeasured, IsMeasuredPoint, before_first, behind_last, heading, is_same, rect_of, with_area}

abbrev pub started : (at : Pt) → (before : ℤ) → Pen
started at before = record { corner = at; at = at; heading = None; before = before }

-- the pen is at a corner, if it goes there next
abbrev pub leaves : Option Side → (at to : Pt) → Bool
leaves None at to = false
leaves (Some side) at to = not (is_same at to) && not (side_rank side == side_rank (heading at to))

abbrev pub turns : Pen → Pt → Bool
turns pen to = leaves pen.heading pen.at to

-- the pen when it has gone there: around a corner, or no corner
abbrev pub turned : (half_width : ℤ) → Pen → Pt → Pen
turned half_width pen to = record { corner = pen.at; at = to; heading = Some (heading pen.at to); before = half_width }

abbrev pub gone : Pen → Pt → Pen
gone pen to =
    if is_same pen.at to then pen
    else record { corner = pen.corner; at = to; heading = Some (heading pen.at to); before = pen.before }

abbrev pub moved : (half_width : ℤ) → Pen → Pt → Pen
moved half_width pen to = if turns pen to then turned half_width pen to else gone pen to

-- the segment from the corner to the pen
abbrev pub stretched : Option Side → (half_width behind : ℤ) → Pen → List Rect
stretched None half_width behind pen = []
stretched (Some side) half_width behind pen = with_area (rect_of side half_width pen.before behind pen.corner pen.at)

abbrev pub drawn_to : (half_width behind : ℤ) → Pen → List Rect
drawn_to half_width behind pen = stretched pen.heading half_width behind pen

-- what is drawn when it goes there
abbrev pub drawn : (half_width : ℤ) → Pen → Pt → List Rect
drawn half_width pen to = if turns pen to then drawn_to half_width half_width pen else []

-- all that is drawn from there on
abbrev pub ahead : Stroke → Pen → List Pt → List Rect
ahead stroke pen [] = drawn_to stroke.half_width (behind_last stroke) pen
ahead stroke pen (p ∷ points) =
    drawn stroke.half_width pen p ++ ahead stroke (moved stroke.half_width pen p) points

-- all that is drawn along these points
abbrev pub all_drawn : Stroke → List Pt → List Rect
all_drawn stroke [] = []
all_drawn stroke (a ∷ points) = ahead stroke (started a (before_first stroke)) points

-- what the pen knows can be reckoned with
pub record IsSteady (pen : Pen) : Type 0 where
  pub corner : IsMeasuredPoint pen.corner
  pub at : IsMeasuredPoint pen.at
  pub before : IsMeasured pen.before
