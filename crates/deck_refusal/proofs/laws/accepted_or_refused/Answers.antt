use Rattle.deck_refusal.proofs.SomeAnswer.{text_answer}
use Rattle.deck_refusal.proofs.laws.accepted_or_refused.Goals as goal

pub returns : goal.returns
returns c = text_answer c.tokens_or_a_fact.ensures
