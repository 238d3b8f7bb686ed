-- The values that were pushed, and those that are left, make the whole.
use Rattle.std.proofs.Common.{◌≡◌, ◌++◌, drop, map}
use Rattle.deck_values.specs.Values.{shown, seen_from, joined, operation_wants}
use Rattle.deck_values.proofs.layer.+layers.Given as goal

abbrev pub invariant-push_layer-loop-operation : goal.invariant-push_layer-loop-operation
invariant-push_layer-loop-operation l =
    shown l.found.items ++ seen_from l.scope (joined (map operation_wants (drop l.operation-index l.operation-items)))
    ≡ shown l.initial.found.items ++ seen_from l.scope (joined (map operation_wants l.operation-items))
