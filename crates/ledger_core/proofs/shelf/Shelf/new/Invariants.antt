use Rattle.std.proofs.Common.{◌≡◌, ℕ, length, Some}
use Rattle.std.specs.Prelude.{slice_get}
use Rattle.ledger_core.specs.Tokens.{Stock}
use Rattle.ledger_core.proofs.shelf.Shelf.new.Given as goal

abbrev pub invariant-loop-op : goal.invariant-loop-op
invariant-loop-op g l = (length l.stocks.items ≡ l.op) × ((j : ℕ) (x : Stock) → slice_get l.stocks.items j ≡ Some x → x ≡ record { op = j; count = 0 })
