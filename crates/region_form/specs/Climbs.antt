-- A climb up a region, line by line: the row above the last line that was passed, and the flips of the lines above it.
use Rattle.std.specs.Prelude.{◌≡◌, ℤ, ◌<ℤ◌, int_le, if◌then◌else◌, Option, None, Some, List, [], ◌∷◌}
use Rattle.list_facts.specs.EitherOr.{exactly_one}
use Rattle.drc_geom.specs.Squares.{Squares}
use Rattle.interval_row.specs.declared.span.Span.{Span}
use Rattle.interval_row.specs.Rows.{has}
use Rattle.region_form.specs.declared.flip.Flip.{Flip}
use Rattle.region_form.specs.Flips.{squares, is_odd, AreSorted}

-- where a climb stands
pub record Standpoint : Type 0 where
  pub row : List Span
  pub flips : List Flip

-- the squares that are seen from there on, upwards: the row, changed by the flips that follow
abbrev pub ahead : Standpoint → Squares
ahead place x y = exactly_one (has place.row x) (squares place.flips x y)

-- the row is what the flips that follow will undo
pub record IsStandpoint (place : Standpoint) : Type 0 where
  pub sorted : AreSorted place.flips
  pub undone : (x : ℤ) → has place.row x ≡ is_odd place.flips x

-- the line of the first flip
abbrev pub first_line : List Flip → Option ℤ
first_line [] = None
first_line (f ∷ fs) = Some f.y

-- the flips from the first on that lies above the line
abbrev pub flips_above : ℤ → List Flip → List Flip
flips_above line [] = []
flips_above line (f ∷ fs) = if int_le f.y line then flips_above line fs else f ∷ fs

-- row y lies below the line, or there is no line
abbrev pub LiesBelow : ℤ → Option ℤ → Type 0
LiesBelow y None = Unit {0}
LiesBelow y (Some line) = y <ℤ line
