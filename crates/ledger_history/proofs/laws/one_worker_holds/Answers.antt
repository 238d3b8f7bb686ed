use Rattle.std.proofs.Common.{arith}
use Rattle.ledger_history.proofs.Orders.{held_last, held_is_claimed}
use Rattle.ledger_history.proofs.Holders.{one_holder}
use Rattle.ledger_history.proofs.laws.one_worker_holds.Goals as goal

pub returns : goal.returns
returns c = record {
  one = λ s h v w i l p q. one_holder s h v w i l (held_last s h v i p).0 (held_last s h w i q).0;
  claimed = held_is_claimed;
  next = λ s h i j p q. let a = p.lowest j q.ready in let b = q.lowest i p.ready in omega arith;
}
