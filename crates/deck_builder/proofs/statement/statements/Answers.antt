use Rattle.deck_grammar.specs.Rules as r
use Rattle.deck_builder.proofs.ListSteps.{grown, whole}
use Rattle.deck_builder.proofs.StatementRules.{no_statement, a_statement}
use Rattle.deck_builder.proofs.statement.statements.Goals as goal

pub returns-in-None : goal.returns-in-None
returns-in-None c = whole {q = r.statements} {list = λ all. all} c.loop-turn.found c.loop-turn.invariant no_statement

pub loop-turn-preserved : goal.loop-turn-preserved
loop-turn-preserved c =
    grown {q = r.statements} {list = λ all. all} c.loop-turn.found _ _ c.in_ok-push-in-Some.ensures.ok c.loop-turn.invariant (λ to more h. a_statement c.in_ok-statement-in-Some.ensures h)

pub returns : goal.returns
returns c = whole {q = r.statements} {list = λ all. all} c.loop-turn.found c.loop-turn.invariant no_statement
