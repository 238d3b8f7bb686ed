use Rattle.deck_parser.proofs.OneDeck.{some}
use Rattle.deck_parser.proofs.laws.some_text_answer.Goals as goal

pub returns : goal.returns
returns c = some c.accepted_or_refused.ensures
