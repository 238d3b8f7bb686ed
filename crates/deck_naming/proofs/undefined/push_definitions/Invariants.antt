-- The facts that were pushed, and those that are left, make the whole; what is left stands at places of the deck.
use Rattle.std.proofs.Common.{◌≡◌, ◌++◌, drop}
use Rattle.std.specs.List.{flat_map}
use Rattle.deck_definitions.specs.Definitions.{shown}
use Rattle.deck_graph.specs.Graphs.{StandAtPlaces}
use Rattle.deck_naming.specs.Undefined.{of_definition}
use Rattle.deck_naming.proofs.undefined.push_definitions.Given as goal

abbrev pub invariant-loop-one : goal.invariant-loop-one
invariant-loop-one l =
    (l.facts.items ++ flat_map (of_definition l.graph.definitions) (shown (drop l.one-index l.definitions))
    ≡ l.initial.facts.items ++ flat_map (of_definition l.graph.definitions) l.graph.definitions)
    × StandAtPlaces l.graph.checks (shown (drop l.one-index l.definitions))
