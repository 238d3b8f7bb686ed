-- The ways from a slot are the exits of what is due in it, each by another type.
use Rattle.std.proofs.Common.{◌≡◌, refl, ℕ, true, List, [], ◌∷◌}
use Rattle.gds_grammar.specs.declared.line.Shape.TheVariants as shapes
use Rattle.gds_grammar.specs.declared.line.Line.TheVariants as lines
use Rattle.gds_grammar.specs.declared.line.Reference.TheVariants as references
use Rattle.gds_grammar.specs.declared.line.Turned.TheVariants as turned
use Rattle.gds_grammar.specs.declared.slot.PathField.TheVariants as path_fields
use Rattle.gds_grammar.specs.declared.slot.TextField.TheVariants as text_fields
use Rattle.gds_grammar.specs.declared.slot.TurnField.TheVariants as turn_fields
use Rattle.gds_grammar.specs.declared.slot.Slot.{Slot}
use Rattle.gds_grammar.specs.declared.slot.Slot.TheVariants as slots
use Rattle.gds_grammar.specs.Steps.{Steps}
use Rattle.gds_grammar.specs.Slots.{due}
use Rattle.gds_grammar.specs.Working.Exits.{differ, exits}
use Rattle.gds_grammar.specs.Working.Ways.{ways}

-- the same ways, each with what is due behind it
abbrev pub dues : List (ℕ × Slot) → List (ℕ × Steps)
dues [] = []
dues (way ∷ ways) = (way.0, due way.1) ∷ dues ways

pub ways_are_exits : (slot : Slot) → dues (ways slot) ≡ exits (due slot)
ways_are_exits slots.Header = refl
ways_are_exits slots.BeginLibrary = refl
ways_are_exits slots.LibraryName = refl
ways_are_exits slots.Units = refl
ways_are_exits slots.Structures = refl
ways_are_exits slots.End = refl
ways_are_exits slots.StructureName = refl
ways_are_exits slots.Class = refl
ways_are_exits slots.Elements = refl
ways_are_exits (slots.Flags (lines.Shape shape)) = refl
ways_are_exits (slots.Flags (lines.Reference reference)) = refl
ways_are_exits (slots.Plex (lines.Shape shape)) = refl
ways_are_exits (slots.Plex (lines.Reference reference)) = refl
ways_are_exits (slots.Fields (lines.Shape shape)) = refl
ways_are_exits (slots.Fields (lines.Reference reference)) = refl
ways_are_exits (slots.ShapeType shapes.Boundary) = refl
ways_are_exits (slots.ShapeType shapes.Path) = refl
ways_are_exits (slots.ShapeType shapes.Text) = refl
ways_are_exits (slots.ShapeType shapes.Node) = refl
ways_are_exits (slots.ShapeType shapes.Box) = refl
ways_are_exits (slots.Path path_fields.PathType) = refl
ways_are_exits (slots.Path path_fields.Width) = refl
ways_are_exits (slots.Path path_fields.BeginExtension) = refl
ways_are_exits (slots.Path path_fields.EndExtension) = refl
ways_are_exits (slots.Text text_fields.Presentation) = refl
ways_are_exits (slots.Text text_fields.PathType) = refl
ways_are_exits (slots.Text text_fields.Width) = refl
ways_are_exits (slots.Turn turn_fields.Transform turned.Text) = refl
ways_are_exits (slots.Turn turn_fields.Transform (turned.Reference references.Single)) = refl
ways_are_exits (slots.Turn turn_fields.Transform (turned.Reference references.Array)) = refl
ways_are_exits (slots.Turn turn_fields.Magnification turned.Text) = refl
ways_are_exits (slots.Turn turn_fields.Magnification (turned.Reference references.Single)) = refl
ways_are_exits (slots.Turn turn_fields.Magnification (turned.Reference references.Array)) = refl
ways_are_exits (slots.Turn turn_fields.Angle turned.Text) = refl
ways_are_exits (slots.Turn turn_fields.Angle (turned.Reference references.Single)) = refl
ways_are_exits (slots.Turn turn_fields.Angle (turned.Reference references.Array)) = refl
ways_are_exits slots.ColumnsAndRows = refl
ways_are_exits (slots.Points (lines.Shape shapes.Boundary)) = refl
ways_are_exits (slots.Points (lines.Shape shapes.Path)) = refl
ways_are_exits (slots.Points (lines.Shape shapes.Text)) = refl
ways_are_exits (slots.Points (lines.Shape shapes.Node)) = refl
ways_are_exits (slots.Points (lines.Shape shapes.Box)) = refl
ways_are_exits (slots.Points (lines.Reference references.Single)) = refl
ways_are_exits (slots.Points (lines.Reference references.Array)) = refl
ways_are_exits slots.TextString = refl
ways_are_exits slots.Properties = refl
ways_are_exits slots.PropertyValue = refl

pub ways_differ : (slot : Slot) → differ (ways slot) ≡ true
ways_differ slots.Header = refl
ways_differ slots.BeginLibrary = refl
ways_differ slots.LibraryName = refl
ways_differ slots.Units = refl
ways_differ slots.Structures = refl
ways_differ slots.End = refl
ways_differ slots.StructureName = refl
ways_differ slots.Class = refl
ways_differ slots.Elements = refl
ways_differ (slots.Flags (lines.Shape shape)) = refl
ways_differ (slots.Flags (lines.Reference reference)) = refl
ways_differ (slots.Plex (lines.Shape shape)) = refl
ways_differ (slots.Plex (lines.Reference reference)) = refl
ways_differ (slots.Fields (lines.Shape shape)) = refl
ways_differ (slots.Fields (lines.Reference reference)) = refl
ways_differ (slots.ShapeType shapes.Boundary) = refl
ways_differ (slots.ShapeType shapes.Path) = refl
ways_differ (slots.ShapeType shapes.Text) = refl
ways_differ (slots.ShapeType shapes.Node) = refl
ways_differ (slots.ShapeType shapes.Box) = refl
ways_differ (slots.Path path_fields.PathType) = refl
ways_differ (slots.Path path_fields.Width) = refl
ways_differ (slots.Path path_fields.BeginExtension) = refl
ways_differ (slots.Path path_fields.EndExtension) = refl
ways_differ (slots.Text text_fields.Presentation) = refl
ways_differ (slots.Text text_fields.PathType) = refl
ways_differ (slots.Text text_fields.Width) = refl
ways_differ (slots.Turn turn_fields.Transform turned.Text) = refl
ways_differ (slots.Turn turn_fields.Transform (turned.Reference references.Single)) = refl
ways_differ (slots.Turn turn_fields.Transform (turned.Reference references.Array)) = refl
ways_differ (slots.Turn turn_fields.Magnification turned.Text) = refl
ways_differ (slots.Turn turn_fields.Magnification (turned.Reference references.Single)) = refl
ways_differ (slots.Turn turn_fields.Magnification (turned.Reference references.Array)) = refl
ways_differ (slots.Turn turn_fields.Angle turned.Text) = refl
ways_differ (slots.Turn turn_fields.Angle (turned.Reference references.Single)) = refl
ways_differ (slots.Turn turn_fields.Angle (turned.Reference references.Array)) = refl
ways_differ slots.ColumnsAndRows = refl
ways_differ (slots.Points (lines.Shape shapes.Boundary)) = refl
ways_differ (slots.Points (lines.Shape shapes.Path)) = refl
ways_differ (slots.Points (lines.Shape shapes.Text)) = refl
ways_differ (slots.Points (lines.Shape shapes.Node)) = refl
ways_differ (slots.Points (lines.Shape shapes.Box)) = refl
ways_differ (slots.Points (lines.Reference references.Single)) = refl
ways_differ (slots.Points (lines.Reference references.Array)) = refl
ways_differ slots.TextString = refl
ways_differ slots.Properties = refl
ways_differ slots.PropertyValue = refl
