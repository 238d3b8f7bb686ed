-- What is joined so far, with what is left, answers as the whole chain.
use Rattle.std.proofs.Common.{◌≡◌, drop, map}
use Rattle.deck_tree.specs.KnownNames.{names_of}
use Rattle.deck_tree.specs.Working.Answers.{chain_answer, addend_step, factor_step}
use Rattle.deck_tree.proofs.evaluation.+values.Given as goal

abbrev pub invariant-value_answer-loop-addend : goal.invariant-value_answer-loop-addend
invariant-value_answer-loop-addend l =
    chain_answer l.left (map (addend_step (names_of l.vars)) (drop l.addend-index l.addend-items)) ≡ chain_answer l.initial.left (map (addend_step (names_of l.vars)) l.addend-items)

abbrev pub invariant-product_answer-loop-factor : goal.invariant-product_answer-loop-factor
invariant-product_answer-loop-factor l =
    chain_answer l.left (map (factor_step (names_of l.vars)) (drop l.factor-index l.factor-items)) ≡ chain_answer l.initial.left (map (factor_step (names_of l.vars)) l.factor-items)
