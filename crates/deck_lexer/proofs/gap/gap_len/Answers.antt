use Rattle.deck_lexer.proofs.Gaps.{reached_more, reached_all}
use Rattle.deck_lexer.proofs.gap.gap_len.Goals as goal

pub returns-then-part-eq0 : goal.returns-then-part-eq0
returns-then-part-eq0 c = reached_all c.args.bytes.now c.loop-len.len c.part_len-part.result c.part_len-part.ensures.value c.if-part-eq0.true c.loop-len.invariant

pub loop-len-preserved : goal.loop-len-preserved
loop-len-preserved c = reached_more c.args.bytes.now c.loop-len.len c.part_len-part.result c.part_len-part.ensures.value c.if-part-eq0.false c.part_len-part.ensures.within c.loop-len.invariant
