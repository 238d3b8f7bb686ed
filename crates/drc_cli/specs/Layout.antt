-- The first form of a layout: a GDSII stream of one structure, the primary, whose elements are rectangles with an area.
--
--     layout    = HEADER BGNLIB LIBNAME UNITS BGNSTR STRNAME { element } ENDSTR ENDLIB
--     element   = BOUNDARY LAYER DATATYPE XY ENDEL
--
-- What each record is stands first, then the grammar by cases on the list of records, then what is drawn on a layer, and
-- last the same grammar by slots, for layouts that are refused: what may stand in a slot, and what slot follows.
use Rattle.std.specs.Prelude.{◌≡◌, ◌≢◌, ◌⊎◌, ℕ, ◌+◌, ◌-◌, ◌*◌, ◌^◌, ◌==◌, ◌&&◌, ◌||◌, not, false, if◌then◌else◌, List, [], ◌∷◌, ◌++◌, length, take, drop, slice_get, All, Some, ℤ, pos, negsuc, ◌≤ℤ◌}
use Rattle.std.specs.Int.{cast_signed, w32}
use Rattle.std.specs.Ordering.{int_eq}
use Rattle.byteorder.specs.Endian.{big_number}
use Rattle.drc_geom.specs.declared.point.Pt.{Pt}
use Rattle.drc_geom.specs.declared.rect.Rect.{Rect}
use Rattle.drc_geom.specs.Winding.{outline, winding}
use Rattle.drc_geom.specs.Squares.{Squares, IsRect}
use Rattle.gds_records.specs.declared.record_type.RecordType.TheVariants as types
use Rattle.gds_records.specs.declared.data_form.DataForm.TheVariants as forms
use Rattle.gds_records.specs.declared.fault.LayoutKind.{LayoutKind}
use Rattle.gds_records.specs.declared.fault.LayoutKind.TheVariants as kinds
use Rattle.gds_records.specs.declared.fault.LayoutRefusal.{LayoutRefusal}
use Rattle.gds_records.specs.Records.{Item, IsOf, Cuts, end_of, EndsLibrary, ComesNext, IsPartial, IsTooLong, IsBadLength}
use Rattle.gds_records.specs.RecordTypes.{code_of}
use Rattle.drc_cli.specs.declared.layout.slot.Slot.{Slot}
use Rattle.drc_cli.specs.declared.layout.slot.Slot.TheVariants.{Header, LibraryStart, LibraryName, Units, StructureStart, StructureName, Elements, Layer, DataType, Points, ElementEnd, LibraryEnd, End}

-- ---- What each record is

abbrev pub IsHeader : Item → Type 0
IsHeader item = IsOf types.Header forms.TwoByte item × (length item.body ≡ 2)

abbrev pub IsLibraryStart : Item → Type 0
IsLibraryStart item = IsOf types.BeginLibrary forms.TwoByte item

abbrev pub IsLibraryName : Item → Type 0
IsLibraryName item = IsOf types.LibraryName forms.Text item

-- a database unit is a thousandth of a user unit and 10^-9 metres: two eight-byte reals
abbrev pub unit_bytes : List ℕ
unit_bytes =
    0x3E ∷ 0x41 ∷ 0x89 ∷ 0x37 ∷ 0x4B ∷ 0xC6 ∷ 0xA7 ∷ 0xF0
    ∷ 0x39 ∷ 0x44 ∷ 0xB8 ∷ 0x2F ∷ 0xA0 ∷ 0x9B ∷ 0x5A ∷ 0x54 ∷ []

abbrev pub IsUnits : Item → Type 0
IsUnits item = IsOf types.Units forms.EightByteReal item × (item.body ≡ unit_bytes)

abbrev pub IsStructureStart : Item → Type 0
IsStructureStart item = IsOf types.BeginStructure forms.TwoByte item

-- the text without its trailing NUL bytes is the name: the name stands first, then NUL bytes alone, and the name
-- itself doesn't end with one
pub record IsPadded (name text : List ℕ) : Type 0 where
  pub first : take (length name) text ≡ name
  pub nulls : All (λ byte. byte ≡ 0) (drop (length name) text)
  pub whole : slice_get name (length name - 1) ≢ Some 0

abbrev pub IsStructureName : (primary : List ℕ) → Item → Type 0
IsStructureName primary item = IsOf types.StructureName forms.Text item × IsPadded primary item.body

abbrev pub IsBoundary : Item → Type 0
IsBoundary item = IsOf types.Boundary forms.NoData item × (length item.body ≡ 0)

abbrev pub IsLayer : Item → Type 0
IsLayer item = IsOf types.Layer forms.TwoByte item × (length item.body ≡ 2)

-- the number in the data of LAYER, unsigned: -1 is 65,535
unfoldable pub number_in : List ℕ → ℕ
number_in body = big_number 2 body

abbrev pub IsDataType : Item → Type 0
IsDataType item = IsOf types.DataType forms.TwoByte item × (length item.body ≡ 2)

-- a coordinate in the data of XY, by its index: four bytes, two's complement, high byte first
unfoldable pub coordinate : (index : ℕ) → List ℕ → ℤ
coordinate index body = cast_signed w32 (big_number 4 (drop (4 * index) body))

-- a point there, by its index
abbrev pub point_in : (index : ℕ) → List ℕ → Pt
point_in index body = record { x = coordinate (2 * index) body; y = coordinate (2 * index + 1) body }

-- the first five points
abbrev pub points_in : List ℕ → List Pt
points_in body = point_in 0 body ∷ point_in 1 body ∷ point_in 2 body ∷ point_in 3 body ∷ point_in 4 body ∷ []

-- the rectangle between the first and the third point
abbrev pub rect_in : List ℕ → Rect
rect_in body = record { x0 = coordinate 0 body; y0 = coordinate 1 body; x1 = coordinate 4 body; y1 = coordinate 5 body }

-- a rectangle within -2^30 to 2^30
pub record IsInRange (r : Rect) : Type 0 where
  pub west : negsuc (2 ^ 30 - 1) ≤ℤ r.x0
  pub south : negsuc (2 ^ 30 - 1) ≤ℤ r.y0
  pub east : r.x1 ≤ℤ pos (2 ^ 30)
  pub north : r.y1 ≤ℤ pos (2 ^ 30)

-- five points that are the outline of a rectangle with an area, in range
pub record IsOutline (body : List ℕ) : Type 0 where
  pub size : length body ≡ 40
  pub points : points_in body ≡ outline (rect_in body)
  pub area : IsRect (rect_in body)
  pub range : IsInRange (rect_in body)

abbrev pub IsPoints : Item → Type 0
IsPoints item = IsOf types.Points forms.FourByte item × IsOutline item.body

abbrev pub IsElementEnd : Item → Type 0
IsElementEnd item = IsOf types.EndElement forms.NoData item × (length item.body ≡ 0)

abbrev pub IsStructureEnd : Item → Type 0
IsStructureEnd item = IsOf types.EndStructure forms.NoData item × (length item.body ≡ 0)

abbrev pub IsLibraryEnd : Item → Type 0
IsLibraryEnd item = IsOf types.EndLibrary forms.NoData item × (length item.body ≡ 0)

-- ---- The grammar

-- an element: its layer number and its points
pub record Element : Type 0 where
  pub number : ℕ
  pub points : List Pt

-- the element of a LAYER and an XY
abbrev pub element_of : (layer points : Item) → Element
element_of layer points = record { number = number_in layer.body; points = points_in points.body }

-- elements one after the other, then ENDSTR and ENDLIB
abbrev pub AreElements : List Item → List Element → Type 0
AreElements (boundary ∷ layer ∷ type ∷ points ∷ end ∷ items) (element ∷ elements) =
    IsBoundary boundary × IsLayer layer × IsDataType type × IsPoints points × IsElementEnd end
    × (element ≡ element_of layer points) × AreElements items elements
AreElements (structure ∷ library ∷ []) [] = IsStructureEnd structure × IsLibraryEnd library
AreElements items elements = ⊥

-- the records are those of a layout of the first form, which has these elements
abbrev pub FirstForm : (primary : List ℕ) → List Item → List Element → Type 0
FirstForm primary (header ∷ library ∷ library_name ∷ units ∷ structure ∷ name ∷ items) elements =
    IsHeader header × IsLibraryStart library × IsLibraryName library_name × IsUnits units
    × IsStructureStart structure × IsStructureName primary name × AreElements items elements
FirstForm primary items elements = ⊥

-- A layout of these bytes is accepted with these elements. What stands behind ENDLIB isn't looked at.
pub record Accepts (primary : List ℕ) (bytes : List ℕ) (elements : List Element) : Type 0 where
  pub items : List Item
  pub rest : List ℕ
  pub cut : Cuts bytes items rest
  pub form : FirstForm primary items elements

-- ---- What is drawn

-- the squares of a layer: those round which the points of some element on it wind
abbrev pub drawn : (number : ℕ) → List Element → Squares
drawn number [] x y = false
drawn number (element ∷ elements) x y =
    (element.number == number && not (int_eq (winding element.points x y) (pos 0))) || drawn number elements x y

-- ---- The grammar by slots

-- what may stand in a slot
abbrev pub Stands : (primary : List ℕ) → Slot → Item → Type 0
Stands primary Header item = IsHeader item
Stands primary LibraryStart item = IsLibraryStart item
Stands primary LibraryName item = IsLibraryName item
Stands primary Units item = IsUnits item
Stands primary StructureStart item = IsStructureStart item
Stands primary StructureName item = IsStructureName primary item
Stands primary Elements item = IsBoundary item ⊎ IsStructureEnd item
Stands primary Layer item = IsLayer item
Stands primary (DataType number) item = IsDataType item
Stands primary (Points number) item = IsPoints item
Stands primary ElementEnd item = IsElementEnd item
Stands primary LibraryEnd item = IsLibraryEnd item
Stands primary End item = ⊥

-- the slot behind a record that stands in a slot
abbrev pub following : Slot → Item → Slot
following Header item = LibraryStart
following LibraryStart item = LibraryName
following LibraryName item = Units
following Units item = StructureStart
following StructureStart item = StructureName
following StructureName item = Elements
following Elements item = if item.kind == code_of types.Boundary then Layer else LibraryEnd
following Layer item = DataType (number_in item.body)
following (DataType number) item = Points number
following (Points number) item = ElementEnd
following ElementEnd item = Elements
following LibraryEnd item = End
following End item = End

-- each record may stand in its slot
abbrev pub AllStand : (primary : List ℕ) → Slot → List Item → Type 0
AllStand primary slot [] = Unit {0}
AllStand primary slot (item ∷ items) = Stands primary slot item × AllStand primary (following slot item) items

-- the records are, as far as they go, those of a layout of the first form
abbrev pub IsFront : (primary : List ℕ) → List Item → Type 0
IsFront primary items = AllStand primary Header items

-- ---- Refusals

-- the next record is whole, and with it the records are no such front
pub record LeavesForm (primary : List ℕ) (items : List Item) (rest : List ℕ) (at : ℕ) : Type 0 where
  pub item : Item
  pub more : List ℕ
  pub next : ComesNext items rest item more
  pub leaves : IsFront primary (items ++ item ∷ []) → ⊥
  pub offset : at ≡ item.at

-- the fact behind the records for which a layout is refused
abbrev pub IsNext : LayoutKind → (primary : List ℕ) (items : List Item) (rest : List ℕ) (at : ℕ) → Type 0
IsNext kinds.LayoutTooLong primary items rest at = (at ≡ end_of items) × IsTooLong (end_of items) rest
IsNext kinds.BadLength primary items rest at = (at ≡ end_of items) × IsBadLength (end_of items) rest
IsNext kinds.Truncated primary items rest at = (at ≡ end_of items + length rest) × IsPartial (end_of items) rest
IsNext kinds.NotBuilt primary items rest at = LeavesForm primary items rest at
IsNext kind primary items rest at = ⊥

-- A layout of these bytes is refused so: behind records of the first form, before ENDLIB, this fact comes next.
pub record Refuses (primary : List ℕ) (bytes : List ℕ) (refusal : LayoutRefusal) : Type 0 where
  pub items : List Item
  pub rest : List ℕ
  pub cut : Cuts bytes items rest
  pub front : IsFront primary items
  pub before_end : EndsLibrary items → ⊥
  pub next : IsNext refusal.kind primary items rest refusal.at
