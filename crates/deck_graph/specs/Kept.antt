-- What is kept of a deck's definitions.
use Rattle.std.specs.Prelude.{◌≡◌, ℕ, ◌<◌, ◌^◌, Bool, List, length, map}
use Rattle.std.specs.Global.{Vec}
use Rattle.deck_names.specs.declared.definition.Definition.{Definition}
use Rattle.deck_names.specs.declared.definition.Scope.{Scope}
use Rattle.deck_names.specs.Definitions.{Known}
use Rattle.deck_definitions.specs.declared.defined.Defined.{Defined}
use Rattle.deck_definitions.specs.Definitions.{Entry, shown}
use Rattle.deck_graph.specs.Graphs.{key_of, numbers, uses_of, StandAtPlaces, TellRepeated}

-- what is kept of names are those of the definitions, in their order
abbrev pub kept_key : Definition → List ℕ × Scope
kept_key d = (d.name.now, d.scope)

abbrev pub AreNames : List Definition → List Entry → Type 0
AreNames kept all = map kept_key kept ≡ map key_of all

-- names, flags and uses are those of the definitions
pub record IsGraph (definitions : List Defined) (names : Known) (repeated : List Bool) (uses : List (Vec ℕ)) : Type 0 where
  pub names_are : AreNames names.definitions (shown definitions)
  pub places : StandAtPlaces names.checks (shown definitions)
  pub repeated_are : TellRepeated (shown definitions) repeated
  pub uses_are : numbers uses ≡ map (uses_of (shown definitions)) (shown definitions)
  pub few : length uses < 2 ^ 32
