use Rattle.deck_grammar.specs.Rules as r
use Rattle.deck_builder.proofs.ListSteps.{grown, whole}
use Rattle.deck_builder.proofs.ValueRules.{no_factor}
use Rattle.deck_builder.proofs.value.Rules.factors.Goals as goal

pub returns-in_default : goal.returns-in_default
returns-in_default g c = whole {q = r.factors} {list = λ all. all} c.loop-turn.found c.loop-turn.invariant no_factor

pub loop-turn-preserved : goal.loop-turn-preserved
loop-turn-preserved g c =
    grown {q = r.factors} {list = λ all. all} c.loop-turn.found _ _ c.in_ok-push.ensures.ok c.loop-turn.invariant c.in_ok-factor.ensures

pub returns : goal.returns
returns g c = whole {q = r.factors} {list = λ all. all} c.loop-turn.found c.loop-turn.invariant no_factor
