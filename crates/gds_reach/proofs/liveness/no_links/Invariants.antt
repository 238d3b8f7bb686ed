use Rattle.std.proofs.Common.{◌≡◌, ℕ, length}
use Rattle.gds_reach.specs.References.{Refers}
use Rattle.gds_reach.proofs.liveness.no_links.Given as goal

abbrev pub invariant-loop-done : goal.invariant-loop-done
invariant-loop-done l = (length l.links.items ≡ l._done) × ((i j : ℕ) → Refers l.links.items i j → ⊥)
