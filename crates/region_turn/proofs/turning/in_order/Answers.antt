use Rattle.std.proofs.Common.{rules}
use Rattle.std.proofs.lemmas.Fn.{always_returns_same}
use Rattle.region_turn.proofs.Corners.{ascend_from_sort}
use Rattle.region_turn.proofs.turning.in_order.Goals as goal

pub returns-clause-ascend : goal.returns-clause-ascend
returns-clause-ascend c = ascend_from_sort _ (c.sort_unstable_by_key.ensures.sorted (λ k. (k.line, k.row)) (always_returns_same _ _ _ (λ a r f k. search rules)))
