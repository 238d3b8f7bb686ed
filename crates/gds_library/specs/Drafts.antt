-- What is kept of the records so far.
use Rattle.std.specs.Prelude.{ℕ, List, [], ◌∷◌, ◌++◌}
use Rattle.std.specs.List.{filter}
use Rattle.std.specs.Option.{option_to_list}
use Rattle.gds_records.specs.Records.{Item}
use Rattle.gds_library.specs.declared.keep.Keep.{Keep}
use Rattle.gds_library.specs.declared.part.Part.{Part}
use Rattle.gds_library.specs.declared.part.Part.TheVariants as parts
use Rattle.gds_library.specs.Library.{Drawing, Structure, Library}
use Rattle.gds_library.specs.Fields.{real, name}
use Rattle.gds_library.specs.Elements.{element_of}
use Rattle.gds_library.specs.Kept.{is_kept}
use Rattle.gds_library.specs.Kinds.{part_of}

-- the data of UNITS, the structures that are whole, the one that is open, the records of the element that is open, and
-- the offset of ENDLIB
pub record Draft : Type 0 where
  pub units : List ℕ
  pub structures : List Structure
  pub current : Structure
  pub fields : List Item
  pub end_at : ℕ

abbrev pub blank : ℕ → Structure
blank at = record { name = []; at = at; elements = [] }

abbrev pub first_draft : Draft
first_draft = record { units = []; structures = []; current = blank 0; fields = []; end_at = 0 }

-- what of an element is kept
abbrev pub kept_drawings : Keep → List Item → List Drawing
kept_drawings keep items = filter (is_kept keep) (option_to_list (element_of items))

abbrev pub with_element : Keep → List Item → Structure → Structure
with_element keep items structure = record structure { elements = structure.elements ++ kept_drawings keep items }

-- a field belongs to the element that is open; outside of elements it is passed over
abbrev pub with_field : Item → List Item → List Item
with_field item [] = []
with_field item (first ∷ fields) = first ∷ fields ++ item ∷ []

abbrev pub drafted : Keep → Part → Item → Draft → Draft
drafted keep parts.Units item draft = record draft { units = item.body }
drafted keep parts.BeginStructure item draft = record draft { current = blank item.at }
drafted keep parts.StructureName item draft = record draft { current = record draft.current { name = name item.body } }
drafted keep parts.EndStructure item draft = record draft { structures = draft.structures ++ draft.current ∷ []; current = blank 0 }
drafted keep parts.EndLibrary item draft = record draft { end_at = item.at }
drafted keep parts.EndElement item draft = record draft { current = with_element keep draft.fields draft.current; fields = [] }
drafted keep parts.Property item draft = draft
drafted keep parts.Open item draft = record draft { fields = item ∷ [] }
drafted keep parts.Other item draft = record draft { fields = with_field item draft.fields }

-- one record more, and several
abbrev pub step : Keep → Item → Draft → Draft
step keep item draft = drafted keep (part_of item.kind) item draft

abbrev pub steps : Keep → List Item → Draft → Draft
steps keep [] draft = draft
steps keep (item ∷ items) draft = steps keep items (step keep item draft)

-- the library of a draft
abbrev pub library_of : Draft → Library
library_of draft = record { user_units = real 0 draft.units; metres = real 1 draft.units; structures = draft.structures; end_at = draft.end_at }
