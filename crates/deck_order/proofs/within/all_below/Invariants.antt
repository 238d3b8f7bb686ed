use Rattle.std.proofs.Common.{◌≡◌, ◌<◌, ℕ, Some}
use Rattle.std.specs.Prelude.{slice_get}
use Rattle.deck_order.proofs.within.all_below.Given as goal

abbrev pub invariant-loop-number : goal.invariant-loop-number
invariant-loop-number l = (k j : ℕ) → k < l.number-index → slice_get l.numbers k ≡ Some j → j < l.bound
