use Rattle.std.proofs.Common.{◌<◌, ℕ}
use Rattle.gds_reach.specs.References.{IsOn}
use Rattle.gds_recursion.proofs.circle.first_both.Given as goal

abbrev pub invariant-loop-structure : goal.invariant-loop-structure
invariant-loop-structure l = (i : ℕ) → i < l.structure → IsOn l.reached i × IsOn l.circular i → ⊥
