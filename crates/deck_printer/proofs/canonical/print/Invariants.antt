-- What is pushed, and the lines that are left, make the whole.
use Rattle.std.proofs.Common.{◌≡◌, ◌++◌, drop}
use Rattle.std.specs.List.{flat_map}
use Rattle.deck_printer.specs.Canonical.{statement_text}
use Rattle.deck_printer.proofs.canonical.print.Given as goal

abbrev pub invariant-loop-statement : goal.invariant-loop-statement
invariant-loop-statement l =
    l.text.items ++ flat_map statement_text (drop l.statement-index l.statement-items) ≡ flat_map statement_text l.statement-items
