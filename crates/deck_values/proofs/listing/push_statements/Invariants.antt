-- The values that were pushed, and those that are left, make the whole; and no more checks came than statements.
use Rattle.std.proofs.Common.{◌≡◌, ◌≤◌, ◌++◌, drop}
use Rattle.deck_values.specs.Values.{shown, values_from}
use Rattle.deck_values.proofs.listing.push_statements.Given as goal

abbrev pub invariant-loop-statement : goal.invariant-loop-statement
invariant-loop-statement l =
    (shown l.found.items ++ values_from l.check (drop l.statement-index l.statements)
    ≡ shown l.initial.found.items ++ values_from 0 l.statements)
    × (l.check ≤ l.statement-index)
