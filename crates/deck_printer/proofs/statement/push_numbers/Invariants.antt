-- What is pushed, and the texts that are left, make the whole.
use Rattle.std.proofs.Common.{◌≡◌, ◌++◌, drop}
use Rattle.std.specs.List.{flat_map}
use Rattle.deck_printer.specs.Canonical.{spaced_number}
use Rattle.deck_printer.proofs.statement.push_numbers.Given as goal

abbrev pub invariant-loop-number : goal.invariant-loop-number
invariant-loop-number l =
    l.text.items ++ flat_map spaced_number (drop l.number-index l.numbers) ≡ l.initial.text.items ++ flat_map spaced_number l.numbers
