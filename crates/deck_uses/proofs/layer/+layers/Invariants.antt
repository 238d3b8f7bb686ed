-- The names that were pushed, and those that are left, make the whole.
use Rattle.std.proofs.Common.{◌≡◌, ◌++◌, drop, map}
use Rattle.deck_uses.specs.UsedNames.{shown, joined, operation_names}
use Rattle.deck_uses.proofs.layer.+layers.Given as goal

abbrev pub invariant-push_layer_names-loop-operation : goal.invariant-push_layer_names-loop-operation
invariant-push_layer_names-loop-operation l =
    shown l.names.items ++ joined (map operation_names (drop l.operation-index l.operation-items))
    ≡ shown l.initial.names.items ++ joined (map operation_names l.operation-items)
