use Rattle.std.proofs.Common.{arith}
use Rattle.std.proofs.lemmas.Option.{slice_get-get_or, slice_get_within}
use Rattle.deck_facts.proofs.Firsts.{one_more, of_list}
use Rattle.deck_facts.proofs.first.first_in.Goals as goal

pub loop-fact-preserved : goal.loop-fact-preserved
loop-fact-preserved c =
    let facts = c.args.facts.now in
    let n = c.loop-fact.fact-index in
    one_more facts n _ c.loop-fact.first c.first_of-first.result (slice_get-get_or facts n _ c.loop-fact-test.true) c.loop-fact.invariant c.first_of-first.ensures

pub returns : goal.returns
returns c =
    let facts = c.args.facts.now in
    of_list facts c.loop-fact.fact-index c.loop-fact.first (λ i r e. let l = slice_get_within facts i r e in let t = c.loop-fact-test.false in omega arith) c.loop-fact.invariant
