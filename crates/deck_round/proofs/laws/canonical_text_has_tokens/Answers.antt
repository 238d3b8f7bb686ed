use Rattle.deck_round.proofs.Decks.{spelled_so}
use Rattle.deck_round.proofs.laws.canonical_text_has_tokens.Goals as goal

pub returns : goal.returns
returns c deck formed = let spelled = (spelled_so deck formed).1 in (spelled.tokens, spelled.lexing)
