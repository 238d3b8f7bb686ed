use Rattle.std.proofs.Common.{pos}
use Rattle.region_form.specs.declared.flip.Flip.{Flip}
use Rattle.edge_of_region.proofs.Sweeping.{swept_end, swept_next, swept_start}
use Rattle.edge_of_region.proofs.downwards.sides.Goals as goal

pub loop-left-init : goal.loop-left-init
loop-left-init c = rw (c.new-all.ensures, c.in_ok-runs.ensures.items) (swept_start c.args.flips.now c.requires)

pub loop-left-preserved : goal.loop-left-preserved
loop-left-preserved c =
    let d : Flip = record { y = pos 0; x0 = pos 0; x1 = pos 0 } in
    swept_next c.args.flips.now c.loop-left.left.now d c.loop-left.all c.pass.new.all c.loop-left.runs.items c.pass.new.runs.items c.requires c.in-len1-up.len_at_least c.in_ok-pass.ensures.all c.in_ok-pass.ensures.runs c.loop-left.invariant

pub returns-clause-units : goal.returns-clause-units
returns-clause-units c = swept_end c.args.flips.now c.loop-left.left.now c.loop-left.all c.loop-left.runs.items c.in_default.len_below c.loop-left.invariant
