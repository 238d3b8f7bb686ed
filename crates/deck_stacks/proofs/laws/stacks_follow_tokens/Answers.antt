use Rattle.deck_stacks.proofs.Following.{at_first, behind_more, some_next}
use Rattle.deck_stacks.proofs.laws.stacks_follow_tokens.Goals as goal

pub returns-clause-first : goal.returns-clause-first
returns-clause-first c = at_first

pub returns-clause-more : goal.returns-clause-more
returns-clause-more c = behind_more

pub returns-clause-some : goal.returns-clause-some
returns-clause-some c = some_next
