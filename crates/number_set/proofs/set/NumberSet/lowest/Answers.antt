use Rattle.std.proofs.Common.{◌≡◌, ◌<◌, refl, sym, ◌∙◌, ap, arith, length}
use Rattle.std.proofs.lemmas.Grind.{get_or_default_zero}
use Rattle.number_set.proofs.Trees.{root_is_lowest, root_is_bound, length_flags}
use Rattle.number_set.proofs.set.NumberSet.lowest.Goals as goal

pub returns-then-lowest-self-clause-some : goal.returns-then-lowest-self-clause-some
returns-then-lowest-self-clause-some c =
    let size = c.self.invariant.size in
    let some = c.if-self-eq0.false in
    let room : 1 < length c.self.inside.nodes.items = omega arith in
    rw (← c.self.view_is) (root_is_lowest c.self.inside.bound c.self.inside.nodes.items c.index-lowest.result.now c.self.invariant (sym (c.index-lowest.ensures ∙ get_or_default_zero c.self.inside.nodes.items 1 c.index-lowest.result.now room)) c.if-lowest-self.true)

pub returns-else-lowest-self-clause-none : goal.returns-else-lowest-self-clause-none
returns-else-lowest-self-clause-none c m h =
    let size = c.self.invariant.size in
    let some = c.if-self-eq0.false in
    let room : 1 < length c.self.inside.nodes.items = omega arith in
    let all = length_flags c.self.inside.bound c.self.inside.nodes.items c.self.invariant in
    let there : m < c.self.inside.bound = rw (← c.self.view_is, all) at h in
    rw (← c.self.view_is) (root_is_bound c.self.inside.bound c.self.inside.nodes.items c.index-lowest.result.now m c.self.invariant (sym (c.index-lowest.ensures ∙ get_or_default_zero c.self.inside.nodes.items 1 c.index-lowest.result.now room)) c.if-lowest-self.false there)
