-- The byte of each record type, and that of each data type (GDSII Stream Format, Release 6).
use Rattle.std.specs.Prelude.{ℕ}
use Rattle.gds_records.specs.declared.record_type.RecordType.{RecordType}
use Rattle.gds_records.specs.declared.record_type.RecordType.TheVariants as types
use Rattle.gds_records.specs.declared.data_form.DataForm.{DataForm}
use Rattle.gds_records.specs.declared.data_form.DataForm.TheVariants as forms

abbrev pub code_of : RecordType → ℕ
code_of types.Header = 0x00
code_of types.BeginLibrary = 0x01
code_of types.LibraryName = 0x02
code_of types.Units = 0x03
code_of types.EndLibrary = 0x04
code_of types.BeginStructure = 0x05
code_of types.StructureName = 0x06
code_of types.EndStructure = 0x07
code_of types.Boundary = 0x08
code_of types.Path = 0x09
code_of types.StructureReference = 0x0A
code_of types.ArrayReference = 0x0B
code_of types.Text = 0x0C
code_of types.Layer = 0x0D
code_of types.DataType = 0x0E
code_of types.Width = 0x0F
code_of types.Points = 0x10
code_of types.EndElement = 0x11
code_of types.ReferenceName = 0x12
code_of types.ColumnsAndRows = 0x13
code_of types.Node = 0x15
code_of types.TextType = 0x16
code_of types.Presentation = 0x17
code_of types.TextString = 0x19
code_of types.Transform = 0x1A
code_of types.Magnification = 0x1B
code_of types.Angle = 0x1C
code_of types.ReferenceLibraries = 0x1F
code_of types.Fonts = 0x20
code_of types.PathType = 0x21
code_of types.Generations = 0x22
code_of types.AttributeTable = 0x23
code_of types.ElementFlags = 0x26
code_of types.NodeType = 0x2A
code_of types.PropertyAttribute = 0x2B
code_of types.PropertyValue = 0x2C
code_of types.BoxElement = 0x2D
code_of types.BoxType = 0x2E
code_of types.Plex = 0x2F
code_of types.BeginExtension = 0x30
code_of types.EndExtension = 0x31

abbrev pub form_code_of : DataForm → ℕ
form_code_of forms.NoData = 0
form_code_of forms.BitArray = 1
form_code_of forms.TwoByte = 2
form_code_of forms.FourByte = 3
form_code_of forms.EightByteReal = 5
form_code_of forms.Text = 6
