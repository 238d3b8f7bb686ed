-- The numbers that were pushed, and those that are left, make the whole.
use Rattle.std.proofs.Common.{◌≡◌, ◌++◌, drop}
use Rattle.deck_values.specs.Numbers.{shown_numbers}
use Rattle.deck_values.proofs.numbers.push_numbers.Given as goal

abbrev pub invariant-loop-number : goal.invariant-loop-number
invariant-loop-number l =
    shown_numbers l.found.items ++ drop l.number-index l.numbers
    ≡ shown_numbers l.initial.found.items ++ l.numbers
