use Rattle.std.proofs.Common.{inr, refl}
use Rattle.drc_cli.proofs.SomeOutcome.{some_check, some_format}
use Rattle.drc_cli.proofs.laws.some_outcome.Goals as goal

pub returns-clause-words : goal.returns-clause-words
returns-clause-words c = λ held words nothing. record { meant = inr (nothing, refl); reads_held = (tt, tt) }

pub returns-clause-check : goal.returns-clause-check
returns-clause-check c = λ held words request text asks is each. some_check c.tokens_or_a_fact.ensures c.some_text_answer.ensures held words request text asks is each

pub returns-clause-format : goal.returns-clause-format
returns-clause-format c = λ held words request text asks is. some_format c.tokens_or_a_fact.ensures c.some_text_answer.ensures held words request text asks is
