-- The grammar of streams (GDSII Stream Format, Release 6), by the types of the records alone:
--
--     stream    = HEADER BGNLIB {H} LIBNAME {H} UNITS { structure } ENDLIB
--     structure = BGNSTR STRNAME [C] { element } ENDSTR
--     element   = open [ELFLAGS] [PLEX] fields { PROPATTR PROPVALUE } ENDEL
--
-- H is one of REFLIBS, FONTS, ATTRTABLE, GENERATIONS and the types 36 to 3B hex, C is the type 34 hex; `fields_of` has the
-- fields of each line, and `open_of` the type that opens it. What stands in braces comes any number of times, what stands
-- in square brackets once or not.
use Rattle.std.specs.Prelude.{ℕ, List, []}
use Rattle.gds_records.specs.declared.record_type.RecordType.{RecordType}
use Rattle.gds_records.specs.declared.record_type.RecordType.TheVariants as types
use Rattle.gds_records.specs.RecordTypes.{code_of}
use Rattle.gds_grammar.specs.declared.line.Line.{Line}
use Rattle.gds_grammar.specs.declared.line.Line.TheVariants as lines
use Rattle.gds_grammar.specs.declared.line.Shape.{Shape}
use Rattle.gds_grammar.specs.declared.line.Shape.TheVariants as shapes
use Rattle.gds_grammar.specs.declared.line.Reference.TheVariants as references
use Rattle.gds_grammar.specs.declared.line.Turned.{Turned}
use Rattle.gds_grammar.specs.declared.line.Turned.TheVariants as turned
use Rattle.gds_grammar.specs.Steps.{Steps, done, once, maybe, many, either, Spells, Front}

infixr 4 ◌⇒◌
-- a record of this type, and then these steps
abbrev pub ◌⇒◌ : RecordType → Steps → Steps
type ⇒ after = once (code_of type) after

-- a record of this type alone
abbrev pub one : RecordType → Steps
one type = type ⇒ done

infixr 3 ◌or◌
abbrev pub ◌or◌ : Steps → Steps → Steps
these or those = either these those

-- ---- An element

-- the record type that opens a line
abbrev pub open_of : Line → RecordType
open_of (lines.Shape shapes.Boundary) = types.Boundary
open_of (lines.Shape shapes.Path) = types.Path
open_of (lines.Shape shapes.Text) = types.Text
open_of (lines.Shape shapes.Node) = types.Node
open_of (lines.Shape shapes.Box) = types.BoxElement
open_of (lines.Reference references.Single) = types.StructureReference
open_of (lines.Reference references.Array) = types.ArrayReference

-- the record that says what of a layer a shape is
abbrev pub type_of : Shape → RecordType
type_of shapes.Boundary = types.DataType
type_of shapes.Path = types.DataType
type_of shapes.Text = types.TextType
type_of shapes.Node = types.NodeType
type_of shapes.Box = types.BoxType

-- STRANS, and behind it MAG, ANGLE
abbrev pub turn : Steps
turn = types.Transform ⇒ maybe (one types.Magnification) (maybe (one types.Angle) done)

-- what follows STRANS, MAG and ANGLE, and then these steps
abbrev pub behind_turn : Turned → Steps → Steps
behind_turn turned.Text after = types.Points ⇒ types.TextString ⇒ after
behind_turn (turned.Reference references.Single) after = types.Points ⇒ after
behind_turn (turned.Reference references.Array) after = types.ColumnsAndRows ⇒ types.Points ⇒ after

-- the fields of a shape behind its type, and then these steps
abbrev pub shape_fields : Shape → Steps → Steps
shape_fields shapes.Boundary after = types.Points ⇒ after
shape_fields shapes.Path after =
    maybe (one types.PathType) (maybe (one types.Width) (maybe (one types.BeginExtension) (maybe (one types.EndExtension) (types.Points ⇒ after))))
shape_fields shapes.Text after =
    maybe (one types.Presentation) (maybe (one types.PathType) (maybe (one types.Width) (maybe turn (behind_turn turned.Text after))))
shape_fields shapes.Node after = types.Points ⇒ after
shape_fields shapes.Box after = types.Points ⇒ after

-- the fields of a line, and then these steps
abbrev pub fields_of : Line → Steps → Steps
fields_of (lines.Shape shape) after = types.Layer ⇒ type_of shape ⇒ shape_fields shape after
fields_of (lines.Reference reference) after = types.ReferenceName ⇒ maybe turn (behind_turn (turned.Reference reference) after)

-- properties and ENDEL, and then these steps
abbrev pub properties : Steps → Steps
properties after = many (types.PropertyAttribute ⇒ types.PropertyValue ⇒ done) (types.EndElement ⇒ after)

-- an element of a line, behind the record that opens it
abbrev pub opened : Line → Steps → Steps
opened line after = maybe (one types.ElementFlags) (maybe (one types.Plex) (fields_of line (properties after)))

abbrev pub element_of : Line → Steps
element_of line = open_of line ⇒ opened line done

abbrev pub element : Steps
element =
    element_of (lines.Shape shapes.Boundary) or element_of (lines.Shape shapes.Path)
    or element_of (lines.Reference references.Single) or element_of (lines.Reference references.Array)
    or element_of (lines.Shape shapes.Text) or element_of (lines.Shape shapes.Node) or element_of (lines.Shape shapes.Box)

-- ---- A structure

-- elements and ENDSTR, and then these steps
abbrev pub elements : Steps → Steps
elements after = many element (types.EndStructure ⇒ after)

-- the type of the record that is passed over behind a structure's name
abbrev pub class : ℕ
class = 0x34

-- what follows BGNSTR
abbrev pub begun : Steps → Steps
begun after = types.StructureName ⇒ maybe (once class done) (elements after)

abbrev pub structure : Steps
structure = types.BeginStructure ⇒ begun done

-- ---- A stream

-- a record that is passed over behind BGNLIB and LIBNAME
abbrev pub passed_over : Steps
passed_over =
    one types.ReferenceLibraries or one types.Fonts or one types.Generations or one types.AttributeTable
    or once 0x36 done or once 0x37 done or once 0x38 done or once 0x39 done or once 0x3A done or once 0x3B done

-- structures and ENDLIB
abbrev pub structures : Steps
structures = many structure (one types.EndLibrary)

-- what follows LIBNAME, and what follows BGNLIB
abbrev pub named : Steps
named = many passed_over (types.Units ⇒ structures)

abbrev pub library : Steps
library = many passed_over (types.LibraryName ⇒ named)

abbrev pub stream : Steps
stream = types.Header ⇒ types.BeginLibrary ⇒ library

-- the types are those of a stream
abbrev pub IsStream : List ℕ → Type 0
IsStream types = Spells stream types []

-- the types are a front of a stream
abbrev pub IsFront : List ℕ → Type 0
IsFront types = Front stream types
