use Rattle.std.proofs.Common.{◌≡◌, length}
use Rattle.std.specs.Arc.{arc_value}
use Rattle.std.specs.List.{All}
use Rattle.ledger_core.proofs.copies.Copies.of.Given as goal

abbrev pub invariant-loop-reader : goal.invariant-loop-reader
invariant-loop-reader g l = (length l.list.items ≡ l._reader) × All (λ a. g.J.Job.right l.op (arc_value a)) l.list.items
