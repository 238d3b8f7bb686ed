use Rattle.std.proofs.Common.{slice_index}
use Rattle.trace_replay.proofs.rerun.step.Goals as goal

pub make-requires : goal.make-requires
make-requires c = record { cost = λ i. slice_index c.args.costs.now i; enabled = c.allows_at.ensures.0 c.if-not-allows_at.false }
