-- What is pushed, and the texts that are left, make the whole.
use Rattle.std.proofs.Common.{◌≡◌, ◌++◌, drop, map}
use Rattle.std.specs.List.{concat}
use Rattle.deck_printer.specs.Layers.{operation_text}
use Rattle.deck_printer.proofs.layer.+layers.Given as goal

abbrev pub invariant-push_layer-loop-operation : goal.invariant-push_layer-loop-operation
invariant-push_layer-loop-operation l =
    l.text.items ++ concat (map operation_text (drop l.operation-index l.operation-items)) ≡ l.initial.text.items ++ concat (map operation_text l.operation-items)
