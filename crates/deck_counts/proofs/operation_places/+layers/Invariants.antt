-- The places that were pushed, and those that are left, make the whole.
use Rattle.std.proofs.Common.{◌≡◌, ◌++◌, drop, map}
use Rattle.std.specs.List.{concat}
use Rattle.deck_counts.specs.Operations.{operation_operations}
use Rattle.deck_counts.proofs.operation_places.+layers.Given as goal

abbrev pub invariant-push_layer-loop-operation : goal.invariant-push_layer-loop-operation
invariant-push_layer-loop-operation l =
    l.places.items ++ concat (map operation_operations (drop l.operation-index l.operation-items))
    ≡ l.initial.places.items ++ concat (map operation_operations l.operation-items)
