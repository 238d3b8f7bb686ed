use Rattle.std.proofs.Common.{refl, arith}
use Rattle.std.proofs.lemmas.Option.{slice_get-get_or, slice_get_within}
use Rattle.layer_model.proofs.Formed.{formed_more}
use Rattle.layer_model.proofs.wiring.all_formed.Goals as goal

pub loop-op-preserved : goal.loop-op-preserved
loop-op-preserved c = formed_more c.args.wires.now c.loop-op.op _ (slice_get-get_or _ _ _ c.loop-op-test.true) (c.is_formed.ensures.0 c.if-not-is_formed.false) c.loop-op.invariant

pub returns : goal.returns
returns c = (λ _ i w e. let h = slice_get_within c.args.wires.now i w e in let t = c.loop-op-test.false in c.loop-op.invariant i w (omega arith) e, λ _. refl)
