use Rattle.std.proofs.Common.{subst}
use Rattle.gds_reach.specs.Facts.{Finds}
use Rattle.gds_reach.specs.Working.Depths.{StandsIn}
use Rattle.gds_reach.proofs.Depths.{deep_from_flags, flags_from_deep}
use Rattle.gds_reach.proofs.Firsts.{finds_same}
use Rattle.gds_reach.proofs.depth.too_deep.Goals as goal

pub returns : goal.returns
returns c =
    let links = c.args.links.now in
    let found = subst (λ flags. Finds (StandsIn links flags) c.first_in.result) c.deref.ensures.value c.first_in.ensures in
    finds_same c.first_in.result (deep_from_flags links c.args.primary c.in_ok-ends.ends.items c.in_ok-ends.ensures) (flags_from_deep links c.args.primary c.in_ok-ends.ends.items c.in_ok-ends.ensures) found
