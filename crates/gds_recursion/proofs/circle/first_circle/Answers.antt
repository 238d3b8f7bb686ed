use Rattle.std.proofs.Common.{subst}
use Rattle.gds_reach.specs.References.{IsOn}
use Rattle.gds_reach.specs.Facts.{IsFirstPlace}
use Rattle.gds_recursion.proofs.Backward.{both_told}
use Rattle.gds_recursion.proofs.circle.first_circle.Goals as goal

pub returns : goal.returns
returns c =
    let reached = c.in_ok-reached.reached.items in
    let circular = c.in_ok-circular.circular.items in
    let first = c.first_both.result in
    both_told c.args.links.now c.args.primary reached circular first c.in_ok-reached.ensures c.in_ok-circular.ensures
    (subst (λ flags. IsFirstPlace (λ i. IsOn reached i × IsOn flags i) first) c.deref-2.ensures.value
    (subst (λ flags. IsFirstPlace (λ i. IsOn flags i × IsOn c.deref-2.result.now i) first) c.deref.ensures.value c.first_both.ensures))
