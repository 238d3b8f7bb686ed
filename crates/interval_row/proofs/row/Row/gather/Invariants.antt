use Rattle.std.proofs.Common.{◌≡◌, ℤ, take}
use Rattle.interval_row.specs.Rows.{has}
use Rattle.interval_row.proofs.row.Row.gather.Given as goal

abbrev pub invariant-loop-span : goal.invariant-loop-span
invariant-loop-span l = (x : ℤ) → has l.row x ≡ has (take l.span-index l.spans) x
