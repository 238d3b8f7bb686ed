use Rattle.std.proofs.Common.{sym, subst, arith}
use Rattle.deck_order.specs.Orders.{TellCyclic}
use Rattle.deck_order.specs.Uses.{AreWithin}
use Rattle.gds_recursion.proofs.Circles.{circles_told}
use Rattle.gds_recursion.proofs.circle.circular.Goals as goal

pub order-requires-clause-within : goal.order-requires-clause-within
order-requires-clause-within c = subst AreWithin (sym c.deref.ensures.value)
    (λ i j u. let (l, refers) = (c.in_ok-uses.ensures.each i j).0 u in let m = c.requires.within i j refers in let n = c.in_ok-uses.ensures.all in omega arith)

pub returns : goal.returns
returns c =
    circles_told c.args.links.now c.in_ok-uses.uses.items c.in_ok-uses.ensures.each c.in_ok-ordered.ordered.cyclic.items c.in_ok-uses.ensures.all
    (subst (λ uses. TellCyclic uses c.in_ok-ordered.ordered.cyclic.items) c.deref.ensures.value c.in_ok-ordered.ensures.cyclic)
