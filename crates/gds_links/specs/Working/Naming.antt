-- Names of structures as definitions, and what is named by these.
use Rattle.std.specs.Prelude.{◌≡◌, ℕ, List, map, Option}
use Rattle.std.specs.List.{filter_map}
use Rattle.std.specs.Option.{option_map}
use Rattle.deck_names.specs.declared.definition.Definition.{Definition}
use Rattle.deck_names.specs.declared.definition.Scope.{Scope}
use Rattle.deck_names.specs.declared.definition.Scope.TheVariants as scope
use Rattle.deck_names.specs.Definitions.{stands_for}
use Rattle.gds_library.specs.Library.{Drawing, Structure}
use Rattle.gds_links.specs.Links.{reference}

-- what is kept of names are those of the structures, in their order
abbrev pub kept_key : Definition → List ℕ × Scope
kept_key d = (d.name.now, d.scope)

abbrev pub key_of : Structure → List ℕ × Scope
key_of structure = (structure.name, scope.Everywhere)

abbrev pub AreNames : List Definition → List Structure → Type 0
AreNames kept structures = map kept_key kept ≡ map key_of structures

-- the name in an element, where it is a reference
abbrev pub name_in : Drawing → Option (List ℕ)
name_in drawing = option_map (λ placed. placed.name) (reference drawing)

-- what it stands for among the kept ones
abbrev pub link_by : List Definition → Drawing → Option (Option ℕ)
link_by kept drawing = option_map (λ name. stands_for kept scope.Everywhere name) (name_in drawing)

abbrev pub links_by : List Definition → Structure → List (Option ℕ)
links_by kept structure = filter_map (link_by kept) structure.elements
