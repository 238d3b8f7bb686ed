use Rattle.std.proofs.Common.{◌≡◌, ◌↔◌, ℕ, length}
use Rattle.gds_reach.specs.References.{IsOn}
use Rattle.gds_reach.specs.Working.Depths.{IsReferredToBelow}
use Rattle.gds_reach.proofs.depth.onward.Given as goal

abbrev pub invariant-loop-structure : goal.invariant-loop-structure
invariant-loop-structure l =
    (length l.next.items ≡ length l.links) × ((j : ℕ) → IsOn l.next.items j ↔ IsReferredToBelow l.links l.flags l.structure j)
