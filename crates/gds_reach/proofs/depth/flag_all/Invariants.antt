use Rattle.std.proofs.Common.{◌⊎◌, ◌↔◌, ℕ}
use Rattle.gds_reach.specs.References.{IsNamedBelow, IsOn}
use Rattle.gds_reach.proofs.depth.flag_all.Given as goal

abbrev pub invariant-loop-name : goal.invariant-loop-name
invariant-loop-name l = (j : ℕ) → IsOn l.flags j ↔ (IsOn l.initial.flags j ⊎ IsNamedBelow l.named l.name-index j)
