use Rattle.std.proofs.Common.{arith}
use Rattle.layer_model.proofs.Formed.{wiring_from}
use Rattle.layer_model.proofs.wiring.is_wiring.Goals as goal

pub returns : goal.returns
returns c = (
  λ t. let few = c.if-wires.false in wiring_from c.args.wires.now (omega arith) (c.all_formed.ensures.0 c.if-not-all_formed.false) (c.all_used.ensures.0 t),
  λ v. c.all_used.ensures.1 v.used,
)
