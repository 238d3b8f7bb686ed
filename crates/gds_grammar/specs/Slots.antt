-- What may follow in a slot, and behind which types a slot stands.
use Rattle.std.specs.Prelude.{◌↔◌, ℕ, List, [], ◌++◌}
use Rattle.gds_records.specs.declared.record_type.RecordType.TheVariants as types
use Rattle.gds_grammar.specs.declared.line.Shape.TheVariants as shapes
use Rattle.gds_grammar.specs.declared.line.Line.{Line}
use Rattle.gds_grammar.specs.declared.line.Line.TheVariants as lines
use Rattle.gds_grammar.specs.declared.line.Reference.TheVariants as references
use Rattle.gds_grammar.specs.declared.line.Turned.TheVariants as turned
use Rattle.gds_grammar.specs.declared.slot.PathField.TheVariants as path_fields
use Rattle.gds_grammar.specs.declared.slot.TextField.TheVariants as text_fields
use Rattle.gds_grammar.specs.declared.slot.TurnField.TheVariants as turn_fields
use Rattle.gds_grammar.specs.declared.slot.Slot.{Slot}
use Rattle.gds_grammar.specs.declared.slot.Slot.TheVariants as slots
use Rattle.gds_grammar.specs.Steps.{Steps, done, once, maybe, Spells}
use Rattle.gds_grammar.specs.Grammar.{◌⇒◌, one, type_of, behind_turn, shape_fields, fields_of, properties, opened, elements, begun, structures, named, library, stream, IsStream, turn, class}

-- what follows an element, to the end of the stream
abbrev pub onward : Steps
onward = elements structures

-- what follows the fields of an element
abbrev pub closing : Steps
closing = properties onward

-- what follows the points of an element
abbrev pub behind_points : Line → Steps
behind_points (lines.Shape shapes.Text) = types.TextString ⇒ closing
behind_points line = closing

-- what may follow in a slot, to the end of the stream
abbrev pub due : Slot → Steps
due slots.Header = stream
due slots.BeginLibrary = types.BeginLibrary ⇒ library
due slots.LibraryName = library
due slots.Units = named
due slots.Structures = structures
due slots.End = done
due slots.StructureName = begun structures
due slots.Class = maybe (once class done) onward
due slots.Elements = onward
due (slots.Flags line) = opened line onward
due (slots.Plex line) = maybe (one types.Plex) (fields_of line closing)
due (slots.Fields line) = fields_of line closing
due (slots.ShapeType shape) = type_of shape ⇒ shape_fields shape closing
due (slots.Path path_fields.PathType) = shape_fields shapes.Path closing
due (slots.Path path_fields.Width) =
    maybe (one types.Width) (maybe (one types.BeginExtension) (maybe (one types.EndExtension) (types.Points ⇒ closing)))
due (slots.Path path_fields.BeginExtension) =
    maybe (one types.BeginExtension) (maybe (one types.EndExtension) (types.Points ⇒ closing))
due (slots.Path path_fields.EndExtension) = maybe (one types.EndExtension) (types.Points ⇒ closing)
due (slots.Text text_fields.Presentation) = shape_fields shapes.Text closing
due (slots.Text text_fields.PathType) =
    maybe (one types.PathType) (maybe (one types.Width) (maybe turn (behind_turn turned.Text closing)))
due (slots.Text text_fields.Width) = maybe (one types.Width) (maybe turn (behind_turn turned.Text closing))
due (slots.Turn turn_fields.Transform what) = maybe turn (behind_turn what closing)
due (slots.Turn turn_fields.Magnification what) =
    maybe (one types.Magnification) (maybe (one types.Angle) (behind_turn what closing))
due (slots.Turn turn_fields.Angle what) = maybe (one types.Angle) (behind_turn what closing)
due slots.ColumnsAndRows = behind_turn (turned.Reference references.Array) closing
due (slots.Points line) = types.Points ⇒ behind_points line
due slots.TextString = types.TextString ⇒ closing
due slots.Properties = closing
due slots.PropertyValue = types.PropertyValue ⇒ closing

-- The slot stands behind these types: what completes them to the types of a stream is what its line says, and nothing else.
abbrev pub StandsBehind : List ℕ → Slot → Type 0
StandsBehind types slot = (more : List ℕ) → IsStream (types ++ more) ↔ Spells (due slot) more []
