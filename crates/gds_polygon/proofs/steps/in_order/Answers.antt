use Rattle.std.proofs.Common.{rules}
use Rattle.std.proofs.lemmas.Fn.{always_returns_same}
use Rattle.region_sweep.proofs.Reordered.{rise_from_sort}
use Rattle.gds_polygon.proofs.steps.in_order.Goals as goal

pub returns-clause-rise : goal.returns-clause-rise
returns-clause-rise c = rise_from_sort _ (c.sort_unstable_by_key.ensures.sorted (λ f. (f.y, f.x0)) (always_returns_same _ _ _ (λ a r f k. search rules)))
