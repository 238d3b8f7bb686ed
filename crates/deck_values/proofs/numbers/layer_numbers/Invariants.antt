-- The numbers that were pushed, and those that are left, make the whole.
use Rattle.std.proofs.Common.{◌≡◌, ◌++◌, drop}
use Rattle.std.specs.List.{flat_map}
use Rattle.deck_values.specs.Numbers.{shown_numbers, statement_numbers}
use Rattle.deck_values.proofs.numbers.layer_numbers.Given as goal

abbrev pub invariant-loop-statement : goal.invariant-loop-statement
invariant-loop-statement l =
    shown_numbers l.found.items ++ flat_map statement_numbers (drop l.statement-index l.statement-items)
    ≡ flat_map statement_numbers l.statement-items
