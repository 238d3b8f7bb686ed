use Rattle.deck_refusal.proofs.Statements.{missing_so, repeated_so}
use Rattle.deck_refusal.proofs.lacking.statements_refusal.Goals as goal

pub returns-in-Some-clause-some : goal.returns-in-Some-clause-some
returns-in-Some-clause-some c =
    missing_so c.args.text.now c.args.all.now c.in-Some.which c.requires.size c.requires.deck c.in-Some.ensures.found

pub returns-in-Some-repeated-clause-some : goal.returns-in-Some-repeated-clause-some
returns-in-Some-repeated-clause-some c =
    repeated_so c.args.text.now c.args.all.now c.in-Some-repeated.which c.in-Some-repeated.at c.requires.size
    c.requires.deck
    c.in_default.ensures.none c.in-Some-repeated.ensures.found
