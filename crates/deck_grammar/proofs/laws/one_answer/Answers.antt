use Rattle.deck_grammar.proofs.Refused.{one_refusal, not_both}
use Rattle.deck_grammar.proofs.laws.one_answer.Goals as goal

pub returns : goal.returns
returns c = record { refusal = one_refusal; not_both = not_both }
