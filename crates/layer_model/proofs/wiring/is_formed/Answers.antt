use Rattle.std.proofs.Common.{arith}
use Rattle.layer_model.proofs.Formed.{formed_one, formed_two, formed_none}
use Rattle.layer_model.proofs.wiring.is_formed.Goals as goal

pub returns-in-Some-None : goal.returns-in-Some-None
returns-in-Some-None c = formed_one c.args.wire c.args.op c.in-Some-None.first c.in-Some-None.is-0 c.in-Some-None.is-1

pub returns-then-first-op : goal.returns-then-first-op
returns-then-first-op c = formed_two c.args.wire c.args.op c.in-Some-Some.first c.in-Some-Some.second c.in-Some-Some.is-0 c.in-Some-Some.is-1 c.if-first-op.true

pub returns-else-first-op : goal.returns-else-first-op
returns-else-first-op c = formed_none c.args.wire c.args.op c.in-Some-Some.first c.in-Some-Some.is-0 (omega arith)
