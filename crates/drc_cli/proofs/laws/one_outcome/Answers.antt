use Rattle.drc_cli.proofs.OneOutcome as outcomes
use Rattle.drc_cli.proofs.laws.one_outcome.Goals as goal

pub returns : goal.returns
returns c = outcomes.one_outcome (record { deck = c.one_text_answer.ensures.deck; refusal = c.one_text_answer.ensures.refusal; not_both = c.one_text_answer.ensures.not_both })
