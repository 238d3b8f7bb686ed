-- What was found, and what is left to find, make the whole.
use Rattle.std.proofs.Common.{◌≡◌, ◌++◌, drop}
use Rattle.std.specs.List.{filter_map}
use Rattle.deck_names.specs.Definitions.{stands_for}
use Rattle.deck_tree.specs.declared.name_at.NameAt.{NameAt}
use Rattle.deck_uses.specs.UsedNames.{shown}
use Rattle.deck_graph.proofs.uses.found.Given as goal

abbrev pub invariant-loop-name : goal.invariant-loop-name
invariant-loop-name l =
    l.uses.items ++ filter_map (λ (name : NameAt). stands_for l.names.definitions l.from name.name) (shown (drop l.name-index l.used))
    ≡ filter_map (λ (name : NameAt). stands_for l.names.definitions l.from name.name) (shown l.used)
