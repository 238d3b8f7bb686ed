-- The automaton of the grammar: from each slot, the types that may stand in it, each with the slot that comes behind it.
use Rattle.std.specs.Prelude.{ℕ, List, [], ◌∷◌, ◌++◌}
use Rattle.gds_records.specs.declared.record_type.RecordType.{RecordType}
use Rattle.gds_records.specs.declared.record_type.RecordType.TheVariants as types
use Rattle.gds_records.specs.RecordTypes.{code_of}
use Rattle.gds_grammar.specs.declared.line.Shape.{Shape}
use Rattle.gds_grammar.specs.declared.line.Shape.TheVariants as shapes
use Rattle.gds_grammar.specs.declared.line.Line.{Line}
use Rattle.gds_grammar.specs.declared.line.Line.TheVariants as lines
use Rattle.gds_grammar.specs.declared.line.Reference.TheVariants as references
use Rattle.gds_grammar.specs.declared.line.Turned.{Turned}
use Rattle.gds_grammar.specs.declared.line.Turned.TheVariants as turned
use Rattle.gds_grammar.specs.declared.slot.PathField.{PathField}
use Rattle.gds_grammar.specs.declared.slot.PathField.TheVariants as path_fields
use Rattle.gds_grammar.specs.declared.slot.TextField.{TextField}
use Rattle.gds_grammar.specs.declared.slot.TextField.TheVariants as text_fields
use Rattle.gds_grammar.specs.declared.slot.TurnField.{TurnField}
use Rattle.gds_grammar.specs.declared.slot.TurnField.TheVariants as turn_fields
use Rattle.gds_grammar.specs.declared.slot.Slot.{Slot}
use Rattle.gds_grammar.specs.declared.slot.Slot.TheVariants as slots
use Rattle.gds_grammar.specs.Grammar.{open_of, class}

-- a way by a record of this type
abbrev pub by : RecordType → Slot → ℕ × Slot
by type slot = (code_of type, slot)

-- the types that are passed over leave the slot as it is
abbrev pub passing : Slot → List (ℕ × Slot)
passing slot =
    by types.ReferenceLibraries slot ∷ by types.Fonts slot ∷ by types.Generations slot ∷ by types.AttributeTable slot
    ∷ (0x36, slot) ∷ (0x37, slot) ∷ (0x38, slot) ∷ (0x39, slot) ∷ (0x3A, slot) ∷ (0x3B, slot) ∷ []

abbrev pub opening : Line → ℕ × Slot
opening line = by (open_of line) (slots.Flags line)

abbrev pub in_structure : List (ℕ × Slot)
in_structure =
    opening (lines.Shape shapes.Boundary) ∷ opening (lines.Shape shapes.Path)
    ∷ opening (lines.Reference references.Single) ∷ opening (lines.Reference references.Array)
    ∷ opening (lines.Shape shapes.Text) ∷ opening (lines.Shape shapes.Node) ∷ opening (lines.Shape shapes.Box)
    ∷ by types.EndStructure slots.Structures ∷ []

abbrev pub first_field : Line → ℕ × Slot
first_field (lines.Shape shape) = by types.Layer (slots.ShapeType shape)
first_field (lines.Reference reference) = by types.ReferenceName (slots.Turn turn_fields.Transform (turned.Reference reference))

abbrev pub type_way : Shape → ℕ × Slot
type_way shapes.Boundary = by types.DataType (slots.Points (lines.Shape shapes.Boundary))
type_way shapes.Path = by types.DataType (slots.Path path_fields.PathType)
type_way shapes.Text = by types.TextType (slots.Text text_fields.Presentation)
type_way shapes.Node = by types.NodeType (slots.Points (lines.Shape shapes.Node))
type_way shapes.Box = by types.BoxType (slots.Points (lines.Shape shapes.Box))

abbrev pub behind_points : Line → Slot
behind_points (lines.Shape shapes.Text) = slots.TextString
behind_points line = slots.Properties

-- what follows a turn
abbrev pub past_turn : Turned → ℕ × Slot
past_turn turned.Text = by types.Points slots.TextString
past_turn (turned.Reference references.Single) = by types.Points slots.Properties
past_turn (turned.Reference references.Array) = by types.ColumnsAndRows (slots.Points (lines.Reference references.Array))

-- the slot of what follows a turn
abbrev pub behind_angle : Turned → Slot
behind_angle turned.Text = slots.Points (lines.Shape shapes.Text)
behind_angle (turned.Reference references.Single) = slots.Points (lines.Reference references.Single)
behind_angle (turned.Reference references.Array) = slots.ColumnsAndRows

abbrev pub path_ways : PathField → List (ℕ × Slot)
path_ways path_fields.PathType =
    by types.PathType (slots.Path path_fields.Width) ∷ by types.Width (slots.Path path_fields.BeginExtension)
    ∷ by types.BeginExtension (slots.Path path_fields.EndExtension) ∷ by types.EndExtension (slots.Points (lines.Shape shapes.Path))
    ∷ by types.Points slots.Properties ∷ []
path_ways path_fields.Width =
    by types.Width (slots.Path path_fields.BeginExtension)
    ∷ by types.BeginExtension (slots.Path path_fields.EndExtension) ∷ by types.EndExtension (slots.Points (lines.Shape shapes.Path))
    ∷ by types.Points slots.Properties ∷ []
path_ways path_fields.BeginExtension =
    by types.BeginExtension (slots.Path path_fields.EndExtension) ∷ by types.EndExtension (slots.Points (lines.Shape shapes.Path))
    ∷ by types.Points slots.Properties ∷ []
path_ways path_fields.EndExtension =
    by types.EndExtension (slots.Points (lines.Shape shapes.Path)) ∷ by types.Points slots.Properties ∷ []

abbrev pub text_ways : TextField → List (ℕ × Slot)
text_ways text_fields.Presentation =
    by types.Presentation (slots.Text text_fields.PathType) ∷ by types.PathType (slots.Text text_fields.Width)
    ∷ by types.Width (slots.Turn turn_fields.Transform turned.Text) ∷ by types.Transform (slots.Turn turn_fields.Magnification turned.Text)
    ∷ past_turn turned.Text ∷ []
text_ways text_fields.PathType =
    by types.PathType (slots.Text text_fields.Width)
    ∷ by types.Width (slots.Turn turn_fields.Transform turned.Text) ∷ by types.Transform (slots.Turn turn_fields.Magnification turned.Text)
    ∷ past_turn turned.Text ∷ []
text_ways text_fields.Width =
    by types.Width (slots.Turn turn_fields.Transform turned.Text) ∷ by types.Transform (slots.Turn turn_fields.Magnification turned.Text)
    ∷ past_turn turned.Text ∷ []

abbrev pub turn_ways : TurnField → Turned → List (ℕ × Slot)
turn_ways turn_fields.Transform what = by types.Transform (slots.Turn turn_fields.Magnification what) ∷ past_turn what ∷ []
turn_ways turn_fields.Magnification what =
    by types.Magnification (slots.Turn turn_fields.Angle what) ∷ by types.Angle (behind_angle what) ∷ past_turn what ∷ []
turn_ways turn_fields.Angle what = by types.Angle (behind_angle what) ∷ past_turn what ∷ []

abbrev pub ways : Slot → List (ℕ × Slot)
ways slots.Header = by types.Header slots.BeginLibrary ∷ []
ways slots.BeginLibrary = by types.BeginLibrary slots.LibraryName ∷ []
ways slots.LibraryName = passing slots.LibraryName ++ by types.LibraryName slots.Units ∷ []
ways slots.Units = passing slots.Units ++ by types.Units slots.Structures ∷ []
ways slots.Structures = by types.BeginStructure slots.StructureName ∷ by types.EndLibrary slots.End ∷ []
ways slots.End = []
ways slots.StructureName = by types.StructureName slots.Class ∷ []
ways slots.Class = (class, slots.Elements) ∷ in_structure
ways slots.Elements = in_structure
ways (slots.Flags line) = by types.ElementFlags (slots.Plex line) ∷ by types.Plex (slots.Fields line) ∷ first_field line ∷ []
ways (slots.Plex line) = by types.Plex (slots.Fields line) ∷ first_field line ∷ []
ways (slots.Fields line) = first_field line ∷ []
ways (slots.ShapeType shape) = type_way shape ∷ []
ways (slots.Path field) = path_ways field
ways (slots.Text field) = text_ways field
ways (slots.Turn field what) = turn_ways field what
ways slots.ColumnsAndRows = past_turn (turned.Reference references.Array) ∷ []
ways (slots.Points line) = by types.Points (behind_points line) ∷ []
ways slots.TextString = by types.TextString slots.Properties ∷ []
ways slots.Properties = by types.PropertyAttribute slots.PropertyValue ∷ by types.EndElement slots.Elements ∷ []
ways slots.PropertyValue = by types.PropertyValue slots.Properties ∷ []
