use Rattle.std.proofs.Common.{arith}
use Rattle.deck_order.proofs.Ends.{lists_each, tell_cyclic}
use Rattle.deck_order.proofs.listing.order.Goals as goal

pub returns-clause-each : goal.returns-clause-each
returns-clause-each c = lists_each c.loop-root.invariant.0 (λ u l. c.loop-root.invariant.2 u (omega arith))

pub returns-clause-cyclic : goal.returns-clause-cyclic
returns-clause-cyclic c = tell_cyclic c.loop-root.invariant.0 (λ u l. c.loop-root.invariant.2 u (omega arith))
