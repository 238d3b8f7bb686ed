use Rattle.std.proofs.Common.{◌≡◌, ◌++◌, List, ap, subst, ◌∙◌}
use Rattle.std.specs.Borrow.{Bor}
use Rattle.std.specs.List.{AllByRecursion}
use Rattle.deck_tree.specs.KnownNames.{names_of}
use Rattle.deck_tree.specs.Worths.{answer}
use Rattle.deck_tree.specs.declared.name_at.NameAt.{NameAt}
use Rattle.deck_uses.specs.UsedNames.{shown as shown_names, value_names}
use Rattle.deck_worths.specs.Worths.{names_at}
use Rattle.deck_worths.proofs.OneWorth.{same_worth}
use Rattle.deck_worths.proofs.evaluation.evaluate_at.Goals as goal

pub returns : goal.returns
returns c =
    let known = names_at c.args.graph.now.definitions c.args.worths.now c.args.from in
    let told = names_of c.in_ok-vars.vars in
    let used : shown_names c.deref.result.now ≡ value_names c.args.value.now =
    ap shown_names c.deref.ensures.value
    ∙ (c.in_ok-push_value_names.ensures ∙ ap (λ (names : List (Bor NameAt)). shown_names names ++ value_names c.args.value.now) c.new-used.ensures.items) in
    c.evaluate.ensures
    ∙ ap answer (same_worth told known c.args.value.now (subst (λ names. AllByRecursion (λ (x : NameAt). told x.name ≡ known x.name) names) used c.in_ok-vars.ensures))
