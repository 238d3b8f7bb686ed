-- What a definition uses, by the names that are kept.
use Rattle.std.specs.Prelude.{ℕ, List}
use Rattle.std.specs.List.{filter_map}
use Rattle.deck_names.specs.declared.definition.Definition.{Definition}
use Rattle.deck_names.specs.Definitions.{stands_for}
use Rattle.deck_definitions.specs.Definitions.{Entry}
use Rattle.deck_graph.specs.Graphs.{used_names}

abbrev pub uses_by : List Definition → Entry → List ℕ
uses_by kept e = filter_map (λ name. stands_for kept e.scope name.name) (used_names e.meaning)
