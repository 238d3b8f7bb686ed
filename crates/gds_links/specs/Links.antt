-- Which structures the references of a library name. A structure is its number, in the order of the stream.
use Rattle.std.specs.Prelude.{◌≡◌, ℕ, List, map, Option, None, Some}
use Rattle.std.specs.Global.{Vec}
use Rattle.std.specs.List.{filter_map, position_from}
use Rattle.std.specs.Str.{bytes_eq}
use Rattle.gds_library.specs.declared.element.Instance.{Instance}
use Rattle.gds_library.specs.Library.{Drawing, boundary, box, path, instance, Structure}

-- the structure for which a name stands: the number of the first that has it, or none
abbrev pub number_of : List Structure → List ℕ → Option ℕ
number_of structures name = position_from (λ structure. bytes_eq name structure.name) 0 structures

-- an SREF or an AREF is a reference, and nothing else that stands in a structure is
abbrev pub reference : Drawing → Option Instance
reference (boundary outline points) = None
reference (box outline points) = None
reference (path drawn points) = None
reference (instance placed points) = Some placed

-- the references in a structure, in the order of the stream, and what they name
abbrev pub references_in : Structure → List Instance
references_in structure = filter_map reference structure.elements

abbrev pub links_of : List Structure → Structure → List (Option ℕ)
links_of structures structure = map (λ placed. number_of structures placed.name) (references_in structure)

-- the lists, one for each structure, are of what its references name
abbrev pub listed : List (Vec (Option ℕ)) → List (List (Option ℕ))
listed = map (λ links. links.items)

abbrev pub AreLinks : List Structure → List (Vec (Option ℕ)) → Type 0
AreLinks structures links = listed links ≡ map (links_of structures) structures
