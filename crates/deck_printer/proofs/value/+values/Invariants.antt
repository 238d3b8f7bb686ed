-- What is pushed, and the texts that are left, make the whole.
use Rattle.std.proofs.Common.{◌≡◌, ◌++◌, drop, map}
use Rattle.std.specs.List.{concat}
use Rattle.deck_printer.specs.Values.{factor_text, addend_text}
use Rattle.deck_printer.proofs.value.+values.Given as goal

abbrev pub invariant-push_product-loop-factor : goal.invariant-push_product-loop-factor
invariant-push_product-loop-factor l =
    l.text.items ++ concat (map factor_text (drop l.factor-index l.factor-items)) ≡ l.initial.text.items ++ concat (map factor_text l.factor-items)

abbrev pub invariant-push_value-loop-addend : goal.invariant-push_value-loop-addend
invariant-push_value-loop-addend l =
    l.text.items ++ concat (map addend_text (drop l.addend-index l.addend-items)) ≡ l.initial.text.items ++ concat (map addend_text l.addend-items)
