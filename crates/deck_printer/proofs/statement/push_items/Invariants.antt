-- What is pushed, and the texts that are left, make the whole.
use Rattle.std.proofs.Common.{◌≡◌, ◌++◌, drop}
use Rattle.std.specs.List.{flat_map}
use Rattle.deck_printer.specs.Canonical.{item_text}
use Rattle.deck_printer.proofs.statement.push_items.Given as goal

abbrev pub invariant-loop-item : goal.invariant-loop-item
invariant-loop-item l =
    l.text.items ++ flat_map item_text (drop l.item-index l.items) ≡ l.initial.text.items ++ flat_map item_text l.items
