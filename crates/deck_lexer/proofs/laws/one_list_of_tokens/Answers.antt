use Rattle.deck_lexer.proofs.TokenLaws.{one_list, one_fact, not_both}
use Rattle.deck_lexer.proofs.laws.one_list_of_tokens.Goals as goal

pub returns-clause-tokens : goal.returns-clause-tokens
returns-clause-tokens c = one_list

pub returns-clause-facts : goal.returns-clause-facts
returns-clause-facts c = one_fact

pub returns-clause-not_both : goal.returns-clause-not_both
returns-clause-not_both c = not_both
