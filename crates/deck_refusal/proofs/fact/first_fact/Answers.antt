use Rattle.deck_refusal.proofs.Tokens.{lexed_more, first_so, none_so}
use Rattle.deck_refusal.proofs.fact.first_fact.Goals as goal

pub loop-token-preserved : goal.loop-token-preserved
loop-token-preserved c =
    lexed_more c.args.text.now c.loop-token.at c.upcoming.result c.in-Some.token c.in-Some.is c.upcoming.ensures
    c.loop-token.invariant

pub returns-clause-some : goal.returns-clause-some
returns-clause-some c = first_so c.args.text.now c.loop-token.at c.fact_at.result c.loop-token.invariant
    c.fact_at.ensures.some

pub returns-clause-none : goal.returns-clause-none
returns-clause-none c = none_so c.args.text.now c.loop-token.at c.fact_at.result c.loop-token.invariant
    c.fact_at.ensures.none
