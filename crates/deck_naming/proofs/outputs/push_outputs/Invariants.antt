-- The facts that were pushed, and those that are left, make the whole.
use Rattle.std.proofs.Common.{◌≡◌, ◌++◌, drop}
use Rattle.std.specs.List.{flat_map}
use Rattle.deck_naming.specs.Undefined.{of_item}
use Rattle.deck_naming.proofs.outputs.push_outputs.Given as goal

abbrev pub invariant-loop-item : goal.invariant-loop-item
invariant-loop-item l =
    l.facts.items ++ flat_map (of_item l.graph.definitions l.from) (drop l.item-index l.items)
    ≡ l.initial.facts.items ++ flat_map (of_item l.graph.definitions l.from) l.items
