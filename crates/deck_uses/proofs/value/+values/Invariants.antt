-- The names that were pushed, and those that are left, make the whole.
use Rattle.std.proofs.Common.{◌≡◌, ◌++◌, drop, map}
use Rattle.deck_uses.specs.UsedNames.{shown, joined, factor_names, addend_names}
use Rattle.deck_uses.proofs.value.+values.Given as goal

abbrev pub invariant-push_product-loop-factor : goal.invariant-push_product-loop-factor
invariant-push_product-loop-factor l =
    shown l.names.items ++ joined (map factor_names (drop l.factor-index l.factor-items))
    ≡ shown l.initial.names.items ++ joined (map factor_names l.factor-items)

abbrev pub invariant-push_value_names-loop-addend : goal.invariant-push_value_names-loop-addend
invariant-push_value_names-loop-addend l =
    shown l.names.items ++ joined (map addend_names (drop l.addend-index l.addend-items))
    ≡ shown l.initial.names.items ++ joined (map addend_names l.addend-items)
