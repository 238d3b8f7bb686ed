use Rattle.std.proofs.Common.{◌≡◌, true, false, length, replicate, set, sym, ap, subst, ◌∙◌, arith}
use Rattle.gds_reach.specs.References.{Tell}
use Rattle.gds_reach.specs.Facts.{ReachesBy}
use Rattle.gds_reach.specs.Working.Depths.{IsReferredTo}
use Rattle.gds_reach.proofs.Depths.{first_end, more_ends}
use Rattle.gds_reach.proofs.depth.ends.Goals as goal

pub loop-done-init : goal.loop-done-init
loop-done-init c =
    let links = c.args.links.now in
    let none : c.in_ok-flags.flags.items ≡ replicate (length links) false = c.in_ok-flags.ensures.items_if_clones_equal (λ y h. h) in
    subst (λ xs. Tell links (ReachesBy links 0 c.args.from) (set xs c.args.from true)) (sym none) (first_end links c.args.from c.requires.there)

pub onward-requires-clause-all : goal.onward-requires-clause-all
onward-requires-clause-all c = ap length c.deref.ensures.value ∙ c.loop-done.invariant.all

pub loop-done-preserved : goal.loop-done-preserved
loop-done-preserved c =
    let links = c.args.links.now in
    more_ends links c.loop-done._done c.args.from c.loop-done.flags.items c.in_ok-flags-2.flags.items c.loop-done.invariant
    (subst (λ xs. Tell links (IsReferredTo links xs) c.in_ok-flags-2.flags.items) c.deref.ensures.value c.in_ok-flags-2.ensures)

pub returns : goal.returns
returns c =
    let all : c.loop-done._done ≡ c.args.count = let t = c.loop-done-test.false in let u = c.loop-done.auto._done-end in omega arith in
    subst (λ n. Tell c.args.links.now (ReachesBy c.args.links.now n c.args.from) c.loop-done.flags.items) all c.loop-done.invariant
