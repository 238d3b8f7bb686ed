use Rattle.drc_cli.proofs.OneText.{one_spelled}
use Rattle.drc_cli.proofs.laws.one_deck.Goals as goal

pub returns : goal.returns
returns c = one_spelled (record { deck = c.one_text_answer.ensures.deck; refusal = c.one_text_answer.ensures.refusal; not_both = c.one_text_answer.ensures.not_both })
