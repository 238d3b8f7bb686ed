-- What the records of an element draw or place, from the record that opens it up to its last field. TEXT and NODE draw
-- nothing.
use Rattle.std.specs.Prelude.{ℕ, ◌==◌, if◌then◌else◌, ◌||◌, List, [], ◌∷◌, Option, Some, None}
use Rattle.gds_records.specs.declared.record_type.RecordType.{RecordType}
use Rattle.gds_records.specs.declared.record_type.RecordType.TheVariants as types
use Rattle.gds_records.specs.RecordTypes.{code_of}
use Rattle.gds_records.specs.Records.{Item}
use Rattle.gds_library.specs.declared.element.Outline.{Outline}
use Rattle.gds_library.specs.declared.element.Point.{Point}
use Rattle.gds_library.specs.declared.element.Path.{Path}
use Rattle.gds_library.specs.declared.element.Instance.{Instance}
use Rattle.gds_library.specs.Library.{Drawing, boundary, box, path, instance}
use Rattle.gds_library.specs.Fields.{data_of, offset_of, given, number, long, real, counts, points, name}

-- what has a layer: the record that says what of the layer it is differs from line to line
abbrev pub outline_of : RecordType → Item → List Item → Outline
outline_of data_type first items = record {
  at = first.at;
  layer = number 0 (data_of types.Layer items);
  data_type = number 0 (data_of data_type items);
  points_at = offset_of types.Points items;
}

abbrev pub path_of : Item → List Item → Path
path_of first items = record {
  outline = outline_of types.DataType first items;
  path_type = given (number 0) types.PathType items;
  width = given (long 0) types.Width items;
  begin_extension = given (long 0) types.BeginExtension items;
  end_extension = given (long 0) types.EndExtension items;
}

abbrev pub instance_of : Item → List Item → Instance
instance_of first items = record {
  at = first.at;
  name = name (data_of types.ReferenceName items);
  name_at = offset_of types.ReferenceName items;
  transform = given (number 0) types.Transform items;
  magnification = given (real 0) types.Magnification items;
  angle = given (real 0) types.Angle items;
  counts = given counts types.ColumnsAndRows items;
  points_at = offset_of types.Points items;
}

abbrev pub points_of : List Item → List Point
points_of items = points (data_of types.Points items)

-- the records, of which this is the first, are those of an element that is drawn or placed so
abbrev pub drawn : Item → List Item → Option Drawing
drawn first items =
    if first.kind == code_of types.Boundary then Some (boundary (outline_of types.DataType first items) (points_of items))
    else (if first.kind == code_of types.BoxElement then Some (box (outline_of types.BoxType first items) (points_of items))
    else (if first.kind == code_of types.Path then Some (path (path_of first items) (points_of items))
    else (if (first.kind == code_of types.StructureReference) || (first.kind == code_of types.ArrayReference)
    then Some (instance (instance_of first items) (points_of items))
    else None)))

abbrev pub element_of : List Item → Option Drawing
element_of [] = None
element_of (first ∷ items) = drawn first items
