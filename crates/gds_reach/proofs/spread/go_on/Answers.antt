use Rattle.gds_reach.proofs.Spreading.{not_spread, then_spread}
use Rattle.gds_reach.proofs.spread.go_on.Goals as goal

pub loop-flags-init : goal.loop-flags-init
loop-flags-init c = not_spread c.args.flags.now c.args.waiting.now.items c.requires.met

pub loop-flags-preserved : goal.loop-flags-preserved
loop-flags-preserved c = then_spread _ _ _ _ _ c.loop-flags.invariant c.in_ok-step.ensures.spread
