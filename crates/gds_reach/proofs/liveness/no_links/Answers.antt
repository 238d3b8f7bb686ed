use Rattle.std.proofs.Common.{◌≡◌, ℕ, [], ◌∷◌, ◌++◌, length, sym, ap, subst, ◌∙◌, arith}
use Rattle.gds_reach.specs.References.{Refers}
use Rattle.list_facts.proofs.Slots.{longer}
use Rattle.gds_reach.proofs.Turning.{none_more}
use Rattle.gds_reach.proofs.liveness.no_links.Goals as goal

pub loop-done-preserved : goal.loop-done-preserved
loop-done-preserved c =
    let more : c.push.new.self.items ≡ c.loop-done.links.items ++ c.new.result ∷ [] = c.in_ok-push.ensures.items in (
      (let l = ap length more ∙ longer c.loop-done.links.items c.new.result in let n = c.loop-done.invariant.0 in omega arith),
      subst (λ xs. (i j : ℕ) → Refers xs i j → ⊥) (sym more) (none_more c.loop-done.links.items c.new.result c.loop-done.invariant.1 c.new.ensures.items),
    )
