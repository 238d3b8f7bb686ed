use Rattle.deck_grammar.specs.Rules as r
use Rattle.deck_builder.proofs.ListSteps.{grown, whole}
use Rattle.deck_builder.proofs.StatementRules.{no_number, a_number}
use Rattle.deck_builder.proofs.lists.numbers.Goals as goal

pub returns-in_default : goal.returns-in_default
returns-in_default c = whole {q = r.numbers} {list = λ all. all} c.loop-turn.found c.loop-turn.invariant no_number

pub loop-turn-preserved : goal.loop-turn-preserved
loop-turn-preserved c =
    grown {q = r.numbers} {list = λ all. all} c.loop-turn.found _ _ c.in_ok-push-in-Some-Number.ensures.ok c.loop-turn.invariant (λ to more h. a_number c.in_ok-number-in-Some-Number.ensures h)

pub returns : goal.returns
returns c = whole {q = r.numbers} {list = λ all. all} c.loop-turn.found c.loop-turn.invariant no_number
