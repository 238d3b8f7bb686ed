-- What the data of a record must be (GDSII Stream Format, Release 6), by its type and the element in which it stands.
use Rattle.std.specs.Prelude.{◌≡◌, ◌⊎◌, ℕ, ◌*◌, ◌%◌, ◌<◌, List, length, Any, Option, Some, None, pos, ◌≤ℤ◌}
use Rattle.gds_records.specs.declared.record_type.RecordType.{RecordType}
use Rattle.gds_records.specs.declared.record_type.RecordType.TheVariants as types
use Rattle.gds_records.specs.declared.data_form.DataForm.{DataForm}
use Rattle.gds_records.specs.declared.data_form.DataForm.TheVariants as forms
use Rattle.gds_records.specs.RecordTypes.{code_of, form_code_of}
use Rattle.gds_records.specs.Records.{Item}
use Rattle.gds_grammar.specs.declared.line.Shape.TheVariants as shapes
use Rattle.gds_grammar.specs.declared.line.Reference.TheVariants as references
use Rattle.gds_grammar.specs.declared.line.Line.{Line}
use Rattle.gds_grammar.specs.declared.line.Line.TheVariants as lines
use Rattle.gds_values.specs.declared.rule.Contents.{Contents}
use Rattle.gds_values.specs.declared.rule.Contents.TheVariants as contents
use Rattle.gds_values.specs.declared.rule.Rule.{Rule}
use Rattle.gds_values.specs.Values.{number_at}

abbrev pub rule : DataForm → Contents → Option Rule
rule form what = Some (record { form = form; contents = what })

-- a record without data
abbrev pub bare : Option Rule
bare = rule forms.NoData (contents.Exactly 0)

-- a number of two bytes, and one of four bytes
abbrev pub number : Option Rule
number = rule forms.TwoByte (contents.Exactly 2)

abbrev pub long : Option Rule
long = rule forms.FourByte (contents.Exactly 4)

abbrev pub flags : Option Rule
flags = rule forms.BitArray (contents.Exactly 2)

abbrev pub text : Option Rule
text = rule forms.Text contents.Anything

abbrev pub name : Option Rule
name = rule forms.Text contents.Name

abbrev pub real : Option Rule
real = rule forms.EightByteReal (contents.Exactly 8)

-- the rule of each type; none where the record is passed over
abbrev pub rule_of : RecordType → Option Rule
rule_of types.Header = number
rule_of types.BeginLibrary = rule forms.TwoByte contents.Anything
rule_of types.LibraryName = text
rule_of types.Units = rule forms.EightByteReal (contents.Exactly 16)
rule_of types.EndLibrary = bare
rule_of types.BeginStructure = rule forms.TwoByte contents.Anything
rule_of types.StructureName = name
rule_of types.EndStructure = bare
rule_of types.Boundary = bare
rule_of types.Path = bare
rule_of types.StructureReference = bare
rule_of types.ArrayReference = bare
rule_of types.Text = bare
rule_of types.Layer = number
rule_of types.DataType = number
rule_of types.Width = long
rule_of types.Points = rule forms.FourByte contents.Points
rule_of types.EndElement = bare
rule_of types.ReferenceName = name
rule_of types.ColumnsAndRows = rule forms.TwoByte contents.Counts
rule_of types.Node = bare
rule_of types.TextType = number
rule_of types.Presentation = flags
rule_of types.TextString = text
rule_of types.Transform = flags
rule_of types.Magnification = real
rule_of types.Angle = real
rule_of types.ReferenceLibraries = None
rule_of types.Fonts = None
rule_of types.PathType = rule forms.TwoByte contents.PathType
rule_of types.Generations = None
rule_of types.AttributeTable = None
rule_of types.ElementFlags = flags
rule_of types.NodeType = number
rule_of types.PropertyAttribute = number
rule_of types.PropertyValue = text
rule_of types.BoxElement = bare
rule_of types.BoxType = number
rule_of types.Plex = long
rule_of types.BeginExtension = long
rule_of types.EndExtension = long

-- how many points an element must have: SREF and TEXT one, AREF three, any other element what it has
abbrev pub point_count : Option Line → Option ℕ
point_count None = None
point_count (Some (lines.Shape shapes.Text)) = Some 1
point_count (Some (lines.Shape shape)) = None
point_count (Some (lines.Reference references.Single)) = Some 1
point_count (Some (lines.Reference references.Array)) = Some 3

-- so many bytes are points, each of eight, as many as are asked for, and at least one
abbrev pub ArePoints : Option ℕ → ℕ → Type 0
ArePoints None size = (0 < size) × (size % 8 ≡ 0)
ArePoints (Some count) size = size ≡ 8 * count

-- 0, 1, 2 or 4
abbrev pub IsPathType : List ℕ → Type 0
IsPathType body = (number_at 0 body ≡ pos 0) ⊎ (number_at 0 body ≡ pos 1) ⊎ (number_at 0 body ≡ pos 2) ⊎ (number_at 0 body ≡ pos 4)

-- the data of a record in this element, or outside of elements, are these contents
abbrev pub IsContents : Option Line → Contents → List ℕ → Type 0
IsContents line contents.Anything body = Unit {0}
IsContents line (contents.Exactly size) body = length body ≡ size
IsContents line contents.Name body = Any (λ byte. byte ≡ 0 → ⊥) body
IsContents line contents.Points body = ArePoints (point_count line) (length body)
IsContents line contents.PathType body = (length body ≡ 2) × (line ≡ Some (lines.Shape shapes.Path) → IsPathType body)
IsContents line contents.Counts body = (length body ≡ 4) × (pos 1 ≤ℤ number_at 0 body) × (pos 1 ≤ℤ number_at 1 body)

-- the data of a record are as its type asks for
abbrev pub Keeps : Option Line → Option Rule → Item → Type 0
Keeps line None item = Unit {0}
Keeps line (Some those) item = (item.form ≡ form_code_of those.form) × IsContents line those.contents item.body

-- A record in this element, or outside of elements, has the data that its type asks for. A type that the format doesn't
-- name asks for nothing.
abbrev pub HasGoodData : Option Line → Item → Type 0
HasGoodData line item = (type : RecordType) → code_of type ≡ item.kind → Keeps line (rule_of type) item
