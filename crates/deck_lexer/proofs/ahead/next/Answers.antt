use Rattle.deck_lexer.proofs.OneGap.{comes_next}
use Rattle.deck_lexer.proofs.ahead.next.Goals as goal

pub returns : goal.returns
returns c = comes_next c.args.text.now c.args.at c.gap_len.result c.standing.result c.gap_len.ensures c.standing.ensures
