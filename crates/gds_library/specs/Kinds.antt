-- What a record is to the reader of a library, by its type alone.
use Rattle.std.specs.Prelude.{ℕ, ◌==◌, ◌||◌, if◌then◌else◌}
use Rattle.gds_records.specs.declared.record_type.RecordType.TheVariants as types
use Rattle.gds_records.specs.RecordTypes.{code_of}
use Rattle.gds_library.specs.declared.part.Part.{Part}
use Rattle.gds_library.specs.declared.part.Part.TheVariants as parts

abbrev pub part_of : ℕ → Part
part_of type =
    if type == code_of types.Units then parts.Units
    else (if type == code_of types.BeginStructure then parts.BeginStructure
    else (if type == code_of types.StructureName then parts.StructureName
    else (if type == code_of types.EndStructure then parts.EndStructure
    else (if type == code_of types.EndLibrary then parts.EndLibrary
    else (if type == code_of types.EndElement then parts.EndElement
    else (if (type == code_of types.PropertyAttribute) || (type == code_of types.PropertyValue) then parts.Property
    else (if (type == code_of types.Boundary) || (type == code_of types.BoxElement) then parts.Open
    else (if (type == code_of types.Path) || (type == code_of types.StructureReference) then parts.Open
    else (if type == code_of types.ArrayReference then parts.Open
    else (if (type == code_of types.Text) || (type == code_of types.Node) then parts.Open
    else parts.Other))))))))))
