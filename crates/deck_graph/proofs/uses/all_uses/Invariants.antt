-- The uses that were found, and those that are left, make the whole; what is left stands at places of the deck.
use Rattle.std.proofs.Common.{◌≡◌, ◌++◌, drop, map}
use Rattle.deck_definitions.specs.Definitions.{shown}
use Rattle.deck_graph.specs.Graphs.{numbers, StandAtPlaces}
use Rattle.deck_graph.specs.Working.Finding.{uses_by}
use Rattle.deck_graph.proofs.uses.all_uses.Given as goal

abbrev pub invariant-loop-one : goal.invariant-loop-one
invariant-loop-one l =
    (numbers l.uses.items ++ map (uses_by l.names.definitions) (shown (drop l.one-index l.definitions))
    ≡ map (uses_by l.names.definitions) (shown l.definitions))
    × StandAtPlaces l.names.checks (shown (drop l.one-index l.definitions))
