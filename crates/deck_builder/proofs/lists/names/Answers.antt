use Rattle.deck_grammar.specs.Rules as r
use Rattle.deck_builder.proofs.ListSteps.{grown, whole}
use Rattle.deck_builder.proofs.StatementRules.{no_name, a_name}
use Rattle.deck_builder.proofs.lists.names.Goals as goal

pub returns-in_default : goal.returns-in_default
returns-in_default c = whole {q = r.names} {list = λ all. all} c.loop-turn.found c.loop-turn.invariant no_name

pub loop-turn-preserved : goal.loop-turn-preserved
loop-turn-preserved c =
    grown {q = r.names} {list = λ all. all} c.loop-turn.found _ _ c.in_ok-push-in-Some-Name.ensures.ok c.loop-turn.invariant (λ to more h. a_name c.in_ok-name-in-Some-Name.ensures h)

pub returns : goal.returns
returns c = whole {q = r.names} {list = λ all. all} c.loop-turn.found c.loop-turn.invariant no_name
