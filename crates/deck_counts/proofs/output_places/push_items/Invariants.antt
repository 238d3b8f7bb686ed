-- The places that were pushed, and those that are left, make the whole.
use Rattle.std.proofs.Common.{◌≡◌, ◌++◌, drop}
use Rattle.std.specs.List.{flat_map}
use Rattle.deck_counts.specs.Outputs.{item_outputs}
use Rattle.deck_counts.proofs.output_places.push_items.Given as goal

abbrev pub invariant-loop-item : goal.invariant-loop-item
invariant-loop-item l =
    l.places.items ++ flat_map item_outputs (drop l.item-index l.items)
    ≡ l.initial.places.items ++ flat_map item_outputs l.items
