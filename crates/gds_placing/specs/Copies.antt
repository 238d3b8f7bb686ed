-- What a reference says of its copies: how each is reflected, magnified and turned, and where its origin is.
--
--      ×                     An array of three columns and two rows. Its XY has the origin of copy 0, the point × that
--                            is three column pitches from it, and the one that is two row pitches from it.
--      3    4    5           A reference that is no array has one column and one row.
--
--      0    1    2    ×
use Rattle.std.specs.Prelude.{ℕ, ◌*◌, ◌/◌, ◌%◌, ◌^◌, ◌<◌, ◌≤◌, suc, Bool, false, not, ◌==◌, ◌&&◌, nat_le, if◌then◌else◌, List, map, Option, None, Some, unwrap_or, slice_get, IsTrue, ℤ, pos, negsuc, ◌-ℤ◌, unsigned_abs, int_div, bit_and}
use Rattle.std.specs.Int.{cast_unsigned, w16}
use Rattle.std.specs.List.{flat_map, range_with_len}
use Rattle.std.specs.Option.{option_map_or, option_and_then}
use Rattle.drc_geom.specs.declared.point.Pt.{Pt}
use Rattle.gds_records.specs.declared.real.Real8.{Real8}
use Rattle.gds_records.specs.Reals.{magnitude, scale, signed}
use Rattle.gds_library.specs.declared.element.Point.{Point}
use Rattle.gds_library.specs.declared.element.Instance.{Instance}
use Rattle.gds_placing.specs.Places.{magnified, moved, place_of, is_reached, IsNear}
use Rattle.gds_placing.specs.declared.place.Placement.{Placement}
use Rattle.gds_placing.specs.declared.copies.Copies.{Copies}

-- the whole number that a real is
abbrev pub whole_of : Real8 → Option ℤ
whole_of real = if magnitude real % scale == 0 then Some (signed real (magnitude real / scale)) else None

-- ---- Turn and magnification

-- some of these bits of STRANS are set
abbrev pub has_flag : (bits : ℕ) → Instance → Bool
has_flag bits instance =
    option_map_or (λ given. not (bit_and (cast_unsigned w16 given.value) bits == 0)) instance.transform false

-- the bit of reflection, and those of absolute magnification and of absolute angle
abbrev pub reflection : ℕ
reflection = 32768

abbrev pub absolute : ℕ
absolute = 6

-- a magnification: a whole number from 1 to 65,536
abbrev pub times_of : ℤ → Option ℕ
times_of (pos n) = if nat_le 1 n && nat_le n 65536 then Some n else None
times_of (negsuc n) = None

-- an angle, in quarters counterclockwise: degrees that are a whole multiple of 90 of magnitude at most 36,000
abbrev pub turns : ℤ → ℕ
turns (pos n) = (n / 90) % 4
turns (negsuc n) = (3 * (suc n / 90)) % 4

abbrev pub quarters_of : ℤ → Option ℕ
quarters_of degrees =
    if (unsigned_abs degrees % 90 == 0) && nat_le (unsigned_abs degrees) 36000 then Some (turns degrees) else None

-- what MAG and ANGLE say, where it is allowed; where they are left out, once and not turned
abbrev pub said_magnification : Instance → Option ℕ
said_magnification instance =
    option_map_or (λ given. option_and_then times_of (whole_of given.value)) instance.magnification (Some 1)

abbrev pub said_quarters : Instance → Option ℕ
said_quarters instance =
    option_map_or (λ given. option_and_then quarters_of (whole_of given.value)) instance.angle (Some 0)

-- ---- Origins

-- what COLROW says; it is at least 1 in all good data
abbrev pub at_least_one : ℤ → ℕ
at_least_one (pos n) = if n == 0 then 1 else n
at_least_one (negsuc n) = 1

abbrev pub columns_of : Instance → ℕ
columns_of instance = option_map_or (λ given. at_least_one given.value.columns) instance.counts 1

abbrev pub rows_of : Instance → ℕ
rows_of instance = option_map_or (λ given. at_least_one given.value.rows) instance.counts 1

-- the point at an index of XY
abbrev pub widened : Point → Pt
widened point = record { x = point.x; y = point.y }

abbrev pub point_at : List Point → (index : ℕ) → Pt
point_at points index = widened (unwrap_or (slice_get points index) (record { x = pos 0; y = pos 0 }))

-- how far the point at an index is from the origin
abbrev pub displacement : List Point → (index : ℕ) → Pt
displacement points index = record {
  x = (point_at points index).x -ℤ (point_at points 0).x;
  y = (point_at points index).y -ℤ (point_at points 0).y;
}

abbrev pub divided : Pt → (by : ℕ) → Pt
divided p by = record { x = int_div p.x (pos by); y = int_div p.y (pos by) }

-- ---- The copies

abbrev pub copies_of : Instance → List Point → Copies
copies_of instance points = record {
  turn = record { mirror = has_flag reflection instance; quarter = unwrap_or (said_quarters instance) 0 };
  magnification = unwrap_or (said_magnification instance) 1;
  origin = point_at points 0;
  columns = columns_of instance;
  rows = rows_of instance;
  column_pitch = divided (displacement points 1) (columns_of instance);
  row_pitch = divided (displacement points 2) (rows_of instance);
}

-- where the origin of a copy is
abbrev pub origin_of : Copies → (column row : ℕ) → Pt
origin_of copies column row =
    moved copies.origin (moved (magnified column copies.column_pitch) (magnified row copies.row_pitch))

-- how a copy lies in the structure in which the reference stands
abbrev pub step_of : Copies → (column row : ℕ) → Placement
step_of copies column row =
    record { turn = copies.turn; magnification = copies.magnification; origin = origin_of copies column row }

-- a copy of an array
pub record Cell : Type 0 where
  pub column : ℕ
  pub row : ℕ

-- all copies of so many columns and rows, row by row
abbrev pub cells : (columns rows : ℕ) → List Cell
cells columns rows =
    flat_map
    (λ row. map (λ column. record { column = column; row = row }) (range_with_len 0 columns))
    (range_with_len 0 rows)

-- all origins of copies, in the structure in which the reference stands, can be reckoned with
pub record AreNear (copies : Copies) : Type 0 where
  pub origin : IsNear (2 ^ 31) copies.origin
  pub columns : IsNear (2 ^ 32) (magnified copies.columns copies.column_pitch)
  pub rows : IsNear (2 ^ 32) (magnified copies.rows copies.row_pitch)

-- the copies of a reference may be drawn, where it stands in a structure that is drawn at this place
pub record MayBeDrawn (outer : Placement) (copies : Copies) : Type 0 where
  pub turned : copies.turn.quarter < 4
  pub near : AreNear copies
  pub drawn : 1 ≤ copies.magnification
  pub magnified : copies.magnification * outer.magnification ≤ 65536
  pub reached : (column row : ℕ) → column < copies.columns → row < copies.rows
      → IsTrue (is_reached (place_of outer (origin_of copies column row)))
