use Rattle.std.proofs.Common.{◌≡◌, ◌<◌, None, Some}
use Rattle.gds_reach.specs.declared.reference.Reference.{Reference}
use Rattle.gds_reach.specs.References.{named_by, IsOn}
use Rattle.gds_reach.proofs.first.missing.Given as goal

abbrev pub invariant-loop-structure : goal.invariant-loop-structure
invariant-loop-structure l =
    (r : Reference) → r.structure < l.structure → IsOn l.reached r.structure → named_by l.links r ≡ Some None → ⊥
