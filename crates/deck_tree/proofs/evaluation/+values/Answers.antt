use Rattle.std.proofs.Common.{◌≡◌, List, [], drop, map, refl, sym, ◌∙◌, ap}
use Rattle.deck_tree.specs.declared.value.Atom.TheFolds.{fold_out-Exponent, fold_out-Power, fold_out-Product, fold_out-Value}
use Rattle.deck_tree.specs.Worths.{power, answer, power_worth, product_worth, value_worth, atom_worth, joined, chain}
use Rattle.deck_tree.specs.Working.Answers.{both, chain_answer, addend_step, factor_step}
use Rattle.deck_tree.specs.KnownNames.{names_of}
use Rattle.std.proofs.lemmas.List.{drop_all}
use Rattle.deck_tree.proofs.Joined.{answer-joined, answer-chain}
use Rattle.deck_tree.proofs.evaluation.+values.Goals as goal

pub power_answer-returns-in-Some : goal.power_answer-returns-in-Some
power_answer-returns-in-Some t c =
    c.raised.ensures
    ∙ rw (c.get-in-Some.ensures, c.atom_answer-base.ensures, c.atom_answer-right.ensures, c.get.ensures)
    (sym (answer-joined (power c.in-Some.exponent.at) _ (atom_worth (names_of c.args.vars.now) c.in-Some.exponent.atom)) ∙ rw (fold_out-Power, c.in-Some.is, fold_out-Exponent) refl)

pub product_answer-returns : goal.product_answer-returns
product_answer-returns t c =
    let z : drop c.loop-factor.factor-index c.as_slice-factor-items.result.now ≡ [] = drop_all _ _ c.loop-factor-test.false in
    ap (λ xs. chain_answer c.loop-factor.left (map (factor_step (names_of c.args.vars.now)) xs)) (sym z)
    ∙ c.loop-factor.invariant
    ∙ ap (λ a. chain_answer a (map (factor_step (names_of c.args.vars.now)) c.as_slice-factor-items.result.now)) c.power_answer-left.ensures
    ∙ sym (answer-chain _ (map (factor_step (names_of c.args.vars.now)) c.as_slice-factor-items.result.now))
    ∙ rw (fold_out-Product, c.as_slice-factor-items.ensures) refl

pub value_answer-returns : goal.value_answer-returns
value_answer-returns t c =
    let z : drop c.loop-addend.addend-index c.as_slice-addend-items.result.now ≡ [] = drop_all _ _ c.loop-addend-test.false in
    ap (λ xs. chain_answer c.loop-addend.left (map (addend_step (names_of c.args.vars.now)) xs)) (sym z)
    ∙ c.loop-addend.invariant
    ∙ ap (λ a. chain_answer a (map (addend_step (names_of c.args.vars.now)) c.as_slice-addend-items.result.now)) c.product_answer-left.ensures
    ∙ sym (answer-chain _ (map (addend_step (names_of c.args.vars.now)) c.as_slice-addend-items.result.now))
    ∙ rw (fold_out-Value, c.as_slice-addend-items.ensures) refl
