use Rattle.deck_grammar.proofs.Numbering.{by_numbers}
use Rattle.deck_grammar.proofs.sameness.is_same.Goals as goal

pub returns : goal.returns
returns c = by_numbers c.args.a c.args.b c.number.result c.number-2.result c.number.ensures c.number-2.ensures
