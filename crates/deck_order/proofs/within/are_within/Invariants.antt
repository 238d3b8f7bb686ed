use Rattle.std.proofs.Common.{◌<◌, ℕ, length}
use Rattle.deck_order.specs.Uses.{IsUse}
use Rattle.deck_order.proofs.within.are_within.Given as goal

abbrev pub invariant-loop-used : goal.invariant-loop-used
invariant-loop-used l = (i j : ℕ) → i < l.used-index → IsUse l.uses i j → j < length l.uses
