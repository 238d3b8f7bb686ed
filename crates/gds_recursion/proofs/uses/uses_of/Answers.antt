use Rattle.std.proofs.Common.{◌≡◌, ◌↔◌, ℕ, ◌+◌, [], ◌∷◌, ◌++◌, length, Option, sym, ap, subst, ◌∙◌, arith}
use Rattle.std.specs.Global.{Vec}
use Rattle.gds_reach.specs.References.{named_in, IsNamed}
use Rattle.list_facts.proofs.Slots.{longer}
use Rattle.gds_reach.proofs.Paths.{named_here}
use Rattle.gds_recursion.specs.Working.Circles.{AreUses, IsHeld}
use Rattle.gds_recursion.proofs.Using.{all_used, none_used, uses_more}
use Rattle.gds_recursion.proofs.uses.uses_of.Goals as goal

pub loop-named-init : goal.loop-named-init
loop-named-init c = (ap length c.new-uses.ensures.items, subst (AreUses c.args.links.now 0) (sym c.new-uses.ensures.items) (none_used c.args.links.now))

pub loop-named-preserved : goal.loop-named-preserved
loop-named-preserved c =
    let n = c.loop-named.named-index in
    let links = c.args.links.now in
    let numbers = c.in_ok-numbers.numbers in
    let same : c.deref.result.now ≡ named_in links n = c.deref.ensures.value ∙ (ap (λ (v : Vec (Option ℕ)). v.items) c.named-item.is ∙ sym (named_here links n c.named-item.result c.loop-named-test.true)) in
    let more : c.push.new.self.items ≡ c.loop-named.uses.items ++ numbers ∷ [] = c.in_ok-push.ensures.items in
    let held : (j : ℕ) → IsHeld numbers.items j ↔ IsNamed (named_in links n) j = subst (λ xs. (j : ℕ) → IsHeld numbers.items j ↔ IsNamed xs j) same c.in_ok-numbers.ensures in (
      (let l = ap length more ∙ longer c.loop-named.uses.items numbers in let m = c.loop-named.invariant.0 in omega arith),
      subst (AreUses links (n + 1)) (sym more) (uses_more links c.loop-named.uses.items numbers n c.loop-named.invariant.0 c.loop-named.invariant.1 held),
    )

pub returns-clause-each : goal.returns-clause-each
returns-clause-each c = all_used c.args.links.now c.loop-named.uses.items c.loop-named.named-index (let t = c.loop-named-test.false in omega arith) c.loop-named.invariant.1
