use Rattle.std.proofs.Common.{◌≡◌, ◌⊎◌, ◌↔◌, ℕ}
use Rattle.gds_reach.specs.References.{IsNamedBelow, Refers}
use Rattle.gds_reach.proofs.liveness.turn.Given as goal

abbrev pub invariant-loop-name : goal.invariant-loop-name
invariant-loop-name l = (i j : ℕ) → Refers l.turned i j ↔ (Refers l.initial.turned i j ⊎ (IsNamedBelow l.named l.name-index i × (j ≡ l.structure)))
