-- The definitions that were pushed, and those that are left, make the whole.
use Rattle.std.proofs.Common.{◌≡◌, ◌++◌, drop}
use Rattle.std.specs.List.{flat_map}
use Rattle.deck_definitions.specs.Definitions.{shown, item_entries}
use Rattle.deck_definitions.proofs.listing.push_items.Given as goal

abbrev pub invariant-loop-item : goal.invariant-loop-item
invariant-loop-item l =
    shown l.found.items ++ flat_map (item_entries l.check) (drop l.item-index l.items)
    ≡ shown l.initial.found.items ++ flat_map (item_entries l.check) l.items
