-- What is pushed, and the texts that are left, make the whole.
use Rattle.std.proofs.Common.{◌≡◌, ◌++◌, drop}
use Rattle.std.specs.List.{flat_map}
use Rattle.deck_printer.specs.Canonical.{spaced_name}
use Rattle.deck_printer.proofs.statement.push_names.Given as goal

abbrev pub invariant-loop-name : goal.invariant-loop-name
invariant-loop-name l =
    l.text.items ++ flat_map spaced_name (drop l.name-index l.names) ≡ l.initial.text.items ++ flat_map spaced_name l.names
