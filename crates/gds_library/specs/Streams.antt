-- Which library the records of a stream say, by the lines of the stream's grammar:
--
--     stream    = HEADER BGNLIB {H} LIBNAME {H} UNITS { structure } ENDLIB
--     structure = BGNSTR STRNAME [C] { element } ENDSTR
--     element   = open [ELFLAGS] [PLEX] fields { PROPATTR PROPVALUE } ENDEL
use Rattle.std.specs.Prelude.{◌≡◌, ℕ, List, [], ◌∷◌, ◌++◌}
use Rattle.std.specs.Option.{option_to_list}
use Rattle.gds_records.specs.declared.record_type.RecordType.{RecordType}
use Rattle.gds_records.specs.declared.record_type.RecordType.TheVariants as types
use Rattle.gds_records.specs.RecordTypes.{code_of}
use Rattle.gds_records.specs.Records.{Item}
use Rattle.gds_grammar.specs.declared.line.Line.{Line}
use Rattle.gds_grammar.specs.Steps.{Steps, done, once, maybe, many, Spells}
use Rattle.gds_grammar.specs.Grammar.{◌⇒◌, one, open_of, fields_of, properties, passed_over, class}
use Rattle.gds_facts.specs.Opened.{types_of}
use Rattle.gds_library.specs.Library.{Drawing, Structure, Library}
use Rattle.gds_library.specs.Fields.{data_of, real, name}
use Rattle.gds_library.specs.Elements.{element_of}

-- the records are spelled by these steps of the grammar
abbrev pub AreSpelled : Steps → List Item → Type 0
AreSpelled steps items = Spells steps (types_of items) []

abbrev pub HasType : RecordType → Item → Type 0
HasType type item = item.kind ≡ code_of type

-- an element of a line up to its last field, and what closes it
abbrev pub own_steps : Line → Steps
own_steps line = open_of line ⇒ maybe (one types.ElementFlags) (maybe (one types.Plex) (fields_of line done))

abbrev pub closing_steps : Steps
closing_steps = properties done

-- what stands before UNITS
abbrev pub head_steps : Steps
head_steps = types.Header ⇒ types.BeginLibrary ⇒ many passed_over (types.LibraryName ⇒ many passed_over done)

-- the records, to their end, are elements and ENDSTR
pub data ReadsElements : List Item → List Drawing → Type 0 where
  no_more_elements : (last : Item) → HasType types.EndStructure last → ReadsElements (last ∷ []) []
  one_more_element : (line : Line) (own closing items : List Item) (elements : List Drawing)
      → AreSpelled (own_steps line) own → AreSpelled closing_steps closing → ReadsElements items elements
      → ReadsElements (own ++ (closing ++ items)) (option_to_list (element_of own) ++ elements)

-- the records, to their end, are structures and ENDLIB, which stands at this offset
pub data ReadsStructures : List Item → List Structure → ℕ → Type 0 where
  no_more_structures : (last : Item) → HasType types.EndLibrary last → ReadsStructures (last ∷ []) [] last.at
  one_more_structure : (first called : Item) (passed body items : List Item) (elements : List Drawing) (structures : List Structure) (end_at : ℕ)
      → HasType types.BeginStructure first → HasType types.StructureName called → AreSpelled (maybe (once class done) done) passed
      → ReadsElements body elements → ReadsStructures items structures end_at
      → ReadsStructures (first ∷ called ∷ (passed ++ (body ++ items)))
      ((record { name = name called.body; at = first.at; elements = elements }) ∷ structures) end_at

-- the records are those of a stream, and say this library
pub record ReadsAs (items : List Item) (library : Library) : Type 0 where
  pub head : List Item
  pub units : Item
  pub body : List Item
  pub parts : items ≡ head ++ units ∷ body
  pub spelled : AreSpelled head_steps head
  pub is_units : HasType types.Units units
  pub user_units : library.user_units ≡ real 0 units.body
  pub metres : library.metres ≡ real 1 units.body
  pub structures : ReadsStructures body library.structures library.end_at
