-- For what facts a reference is refused, by its own records, where it stands in a structure that is drawn at a place.
use Rattle.std.specs.Prelude.{ℕ, ◌<◌, ◌*◌, ◌%◌, ◌==◌, ◌&&◌, not, Bool, false, nat_le, is_some, if◌then◌else◌, List, [], ◌∷◌, ◌++◌, unsigned_abs}
use Rattle.std.specs.List.{list_all}
use Rattle.std.specs.Option.{option_map_or}
use Rattle.drc_geom.specs.declared.point.Pt.{Pt}
use Rattle.gds_records.specs.declared.fault.LayoutKind.{LayoutKind}
use Rattle.gds_records.specs.declared.fault.LayoutKind.TheVariants as kinds
use Rattle.gds_records.specs.declared.fault.LayoutRefusal.{LayoutRefusal}
use Rattle.gds_records.specs.LayoutKinds.{layout_number}
use Rattle.gds_library.specs.declared.element.Point.{Point}
use Rattle.gds_library.specs.declared.element.Instance.{Instance}
use Rattle.gds_placing.specs.declared.place.Placement.{Placement}
use Rattle.gds_placing.specs.declared.copies.Copies.{Copies}
use Rattle.gds_placing.specs.Places.{place_of, is_reached}
use Rattle.gds_placing.specs.Copies.{has_flag, absolute, said_magnification, said_quarters, columns_of, rows_of, displacement, copies_of, origin_of, cells}

-- this fact at a record, if it is one
abbrev pub fact_if : Bool → (at : ℕ) → LayoutKind → List LayoutRefusal
fact_if holds at kind = if holds then record { at = at; kind = kind } ∷ [] else []

-- STRANS asks for absolute magnification or an absolute angle
abbrev pub flag_facts : Instance → List LayoutRefusal
flag_facts instance =
    option_map_or (λ given. fact_if (has_flag absolute instance) given.at kinds.AbsoluteFlag) instance.transform []

-- MAG isn't whole from 1 to 65,536, or makes the magnification of the copies greater than 65,536
abbrev pub magnification_facts : Placement → Instance → List LayoutRefusal
magnification_facts outer instance =
    option_map_or
    (λ given.
    fact_if
    (not (option_map_or (λ times. nat_le (times * outer.magnification) 65536) (said_magnification instance) false))
    given.at kinds.Magnification)
    instance.magnification []

-- ANGLE isn't a whole multiple of 90 of magnitude at most 36,000
abbrev pub angle_facts : Instance → List LayoutRefusal
angle_facts instance =
    option_map_or
    (λ given. fact_if (not (is_some (said_quarters instance))) given.at kinds.AngleNotRight)
    instance.angle []

-- both coordinates are whole multiples
abbrev pub is_multiple : Pt → (of : ℕ) → Bool
is_multiple p of = (unsigned_abs p.x % of == 0) && (unsigned_abs p.y % of == 0)

abbrev pub are_multiples : Instance → List Point → Bool
are_multiples instance points =
    is_multiple (displacement points 1) (columns_of instance) && is_multiple (displacement points 2) (rows_of instance)

-- the displacements in the XY of an array don't divide by its columns and rows
abbrev pub pitch_facts : Instance → List Point → List LayoutRefusal
pitch_facts instance points =
    option_map_or
    (λ given. fact_if (not (are_multiples instance points)) instance.points_at kinds.ArrayPitch)
    instance.counts []

-- the origins of all copies are drawn within -2^30 to 2^30
abbrev pub are_reached : Placement → Copies → Bool
are_reached outer copies =
    list_all
    (λ cell. is_reached (place_of outer (origin_of copies cell.column cell.row)))
    (cells copies.columns copies.rows)

-- the origin of some copy is drawn outside -2^30 to 2^30
abbrev pub range_facts : Placement → Instance → List Point → List LayoutRefusal
range_facts outer instance points =
    fact_if (not (are_reached outer (copies_of instance points))) instance.points_at kinds.CoordinateRange

-- all its facts, by their numbers
abbrev pub facts_of : Placement → Instance → List Point → List LayoutRefusal
facts_of outer instance points =
    flag_facts instance
    ++ (magnification_facts outer instance
    ++ (angle_facts instance ++ (pitch_facts instance points ++ range_facts outer instance points)))

-- the facts stand by their numbers, each greater than the one before it and than this
abbrev pub Rise : (above : ℕ) → List LayoutRefusal → Type 0
Rise above [] = Unit {0}
Rise above (fact ∷ facts) = (above < layout_number fact.kind) × Rise (layout_number fact.kind) facts
