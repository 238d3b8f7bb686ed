use Rattle.deck_grammar.specs.Rules as r
use Rattle.deck_builder.proofs.ListSteps.{grown, whole}
use Rattle.deck_builder.proofs.LayerRules.{no_operation}
use Rattle.deck_builder.proofs.layer.Rules.operations.Goals as goal

pub returns-then-not-begins_operation : goal.returns-then-not-begins_operation
returns-then-not-begins_operation g c = whole {q = r.operations} {list = λ all. all} c.loop-turn.found c.loop-turn.invariant no_operation

pub loop-turn-preserved : goal.loop-turn-preserved
loop-turn-preserved g c =
    grown {q = r.operations} {list = λ all. all} c.loop-turn.found _ _ c.in_ok-push.ensures.ok c.loop-turn.invariant c.in_ok-operation.ensures

pub returns : goal.returns
returns g c = whole {q = r.operations} {list = λ all. all} c.loop-turn.found c.loop-turn.invariant no_operation
