use Rattle.std.proofs.Common.{◌≡◌, ◌⊎◌, ◌↔◌, ◌+◌, ℕ, length, Option, sym, ap, subst, ◌∙◌, arith}
use Rattle.std.proofs.lemmas.List.{with_items_is}
use Rattle.std.specs.Global.{Vec}
use Rattle.gds_reach.specs.References.{named_in, IsNamed, Refers}
use Rattle.gds_reach.specs.Working.Turning.{AreTurned}
use Rattle.gds_reach.proofs.Paths.{named_here}
use Rattle.gds_reach.proofs.Turning.{none_turned, turned_more}
use Rattle.gds_reach.proofs.liveness.turned.Goals as goal

pub loop-structure-init : goal.loop-structure-init
loop-structure-init c = (c.in_ok-turned.ensures.all, none_turned c.args.links.now c.in_ok-turned.turned.items c.in_ok-turned.ensures.none)

pub turn-requires : goal.turn-requires
turn-requires c = λ j named.
    let i = c.loop-structure.structure in
    let same : c.deref.result.now ≡ named_in c.args.links.now i = c.deref.ensures.value ∙ (ap (λ (v : Vec (Option ℕ)). v.items) c.index-links-structure.is ∙ sym (named_here c.args.links.now i c.index-links-structure.result c.loop-structure-test.true)) in
    let l = c.requires.within i j (subst (λ xs. IsNamed xs j) same named) in
    let n = c.loop-structure.invariant.0 in
    let m = ap length c.deref_mut.ensures.value in
    omega arith

pub loop-structure-preserved : goal.loop-structure-preserved
loop-structure-preserved c =
    let i = c.loop-structure.structure in
    let links = c.args.links.now in
    let same : c.deref.result.now ≡ named_in links i = c.deref.ensures.value ∙ (ap (λ (v : Vec (Option ℕ)). v.items) c.index-links-structure.is ∙ sym (named_here links i c.index-links-structure.result c.loop-structure-test.true)) in
    let new : (a b : ℕ) → Refers c.turn.new.turned a b ↔ (Refers c.loop-structure.turned.items a b ⊎ (IsNamed (named_in links i) a × (b ≡ i))) =
    subst (λ xs. (a b : ℕ) → Refers c.turn.new.turned a b ↔ (Refers xs a b ⊎ (IsNamed (named_in links i) a × (b ≡ i)))) c.deref_mut.ensures.value
    (subst (λ ys. (a b : ℕ) → Refers c.turn.new.turned a b ↔ (Refers c.deref_mut.result.now a b ⊎ (IsNamed ys a × (b ≡ i)))) same c.in_ok-turn.ensures) in
    let all : length c.turn.new.turned ≡ length links = c.turn.auto.turned ∙ (ap length c.deref_mut.ensures.value ∙ c.loop-structure.invariant.0) in
    subst (λ xs. (length xs ≡ length links) × AreTurned links (i + 1) xs) (sym (with_items_is c.loop-structure.turned c.turn.new.turned (c.turn.auto.turned ∙ c.deref_mut.ensures.len)))
    (all, turned_more links c.loop-structure.turned.items c.turn.new.turned i c.loop-structure.invariant.1 new)

pub returns-clause-each : goal.returns-clause-each
returns-clause-each c =
    let all : c.loop-structure.structure ≡ length c.args.links.now = let t = c.loop-structure-test.false in let u = c.loop-structure.auto.structure-end in omega arith in
    subst (λ n. AreTurned c.args.links.now n c.loop-structure.turned.items) all c.loop-structure.invariant.1
