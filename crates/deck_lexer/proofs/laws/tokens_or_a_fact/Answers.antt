use Rattle.deck_lexer.proofs.TokenLaws.{tokens_or_fact}
use Rattle.deck_lexer.proofs.laws.tokens_or_a_fact.Goals as goal

pub returns : goal.returns
returns c = tokens_or_fact
