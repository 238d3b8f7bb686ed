-- The values that were pushed, and those that are left, make the whole.
use Rattle.std.proofs.Common.{◌≡◌, ◌++◌, drop}
use Rattle.std.specs.List.{flat_map}
use Rattle.deck_values.specs.Values.{shown, seen_from, item_wants}
use Rattle.deck_values.proofs.listing.push_items.Given as goal

abbrev pub invariant-loop-item : goal.invariant-loop-item
invariant-loop-item l =
    shown l.found.items ++ seen_from l.scope (flat_map item_wants (drop l.item-index l.items))
    ≡ shown l.initial.found.items ++ seen_from l.scope (flat_map item_wants l.items)
