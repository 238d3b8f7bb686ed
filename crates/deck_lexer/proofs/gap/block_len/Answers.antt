use Rattle.std.proofs.Common.{sym, ◌∙◌}
use Rattle.deck_lexer.proofs.Blocks.{searched_more, searched_all}
use Rattle.deck_lexer.proofs.gap.block_len.Goals as goal

pub loop-last-preserved : goal.loop-last-preserved
loop-last-preserved c = searched_more c.args.bytes.now c.loop-last.last c.loop-last.auto.last c.loop-last-test.true (sym c.ends_comment.ensures ∙ c.if-ends_comment.false) c.loop-last.invariant

pub returns-clause-value : goal.returns-clause-value
returns-clause-value c = searched_all c.args.bytes.now c.loop-last.last c.loop-last.auto.last c.loop-last-test.false c.loop-last.invariant
