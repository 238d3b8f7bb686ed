use Rattle.deck_grammar.specs.Rules as r
use Rattle.deck_builder.proofs.ListSteps.{grown, whole}
use Rattle.deck_builder.proofs.StatementRules.{no_item}
use Rattle.deck_builder.proofs.statement.items.Goals as goal

pub returns-then-ends_items : goal.returns-then-ends_items
returns-then-ends_items c = whole {q = r.items} {list = λ all. all} c.loop-turn.found c.loop-turn.invariant no_item

pub loop-turn-preserved : goal.loop-turn-preserved
loop-turn-preserved c =
    grown {q = r.items} {list = λ all. all} c.loop-turn.found _ _ c.in_ok-push.ensures.ok c.loop-turn.invariant c.in_ok-item.ensures

pub returns : goal.returns
returns c = whole {q = r.items} {list = λ all. all} c.loop-turn.found c.loop-turn.invariant no_item
