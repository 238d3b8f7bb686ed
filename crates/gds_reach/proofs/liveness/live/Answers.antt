use Rattle.std.proofs.Common.{◌≡◌, ◌⊎◌, ◌↔◌, ◌+◌, ℕ, Bool, true, false, length, replicate, Some, sym, ap, subst, ◌∙◌, arith}
use Rattle.std.proofs.lemmas.List.{length-replicate, with_items_is}
use Rattle.std.proofs.lemmas.Option.{slice_get-get_or}
use Rattle.std.specs.Prelude.{slice_get}
use Rattle.std.specs.Global.{Vec}
use Rattle.gds_reach.specs.References.{AreWithin, IsClosed, IsOn, Reaches}
use Rattle.gds_reach.specs.Working.Turning.{AreLive}
use Rattle.gds_reach.proofs.Living.{live_all, live_more, live_skip, none_live}
use Rattle.gds_reach.proofs.liveness.live.Goals as goal
use Rattle.gds_reach.proofs.liveness.live.Goals.{then-drawn-structure+in_ok-spread_from, else-drawn-structure}

pub loop-structure-init : goal.loop-structure-init
loop-structure-init c =
    let none : c.in_ok-flags.flags.items ≡ replicate (length c.args.links.now) false = c.in_ok-flags.ensures.items_if_clones_equal (λ y h. h) in (
      ap length none ∙ length-replicate (length c.args.links.now) false,
      subst (AreLive c.in_ok-turned.turned.items c.args.drawn.now 0) (sym none) (none_live c.in_ok-turned.turned.items c.args.drawn.now (length c.args.links.now)),
    )

pub spread_from-requires-clause-within : goal.spread_from-requires-clause-within
spread_from-requires-clause-within c = subst AreWithin (sym c.deref.ensures.value)
    (λ i j refers. let l = ((c.in_ok-turned.ensures.each i j).0 refers).0 in let n = c.in_ok-turned.ensures.all in omega arith)

pub spread_from-requires-clause-closed : goal.spread_from-requires-clause-closed
spread_from-requires-clause-closed c =
    subst (λ xs. IsClosed xs c.deref_mut.result.now) (sym c.deref.ensures.value) (subst (IsClosed c.in_ok-turned.turned.items) (sym c.deref_mut.ensures.value) c.loop-structure.invariant.1.closed)

pub loop-structure-preserved : goal.loop-structure-preserved
loop-structure-preserved c =
    let i = c.loop-structure.structure in
    let links = c.args.links.now in
    let turned = c.in_ok-turned.turned.items in
    let drawn = c.args.drawn.now in
    elim c.if-drawn-structure.branch [
      | then-drawn-structure+in_ok-spread_from w ↦
          let here : IsOn drawn i = slice_get-get_or drawn i false (let n = c.requires.all in let t = c.loop-structure-test.true in omega arith) ∙ ap (λ b. Some b) w.if-drawn-structure.true in
          let whole : c.if-drawn-structure.flags.items ≡ w.spread_from.new.flags = ap (λ (v : Vec Bool). v.items) w.flags-is ∙ with_items_is c.loop-structure.flags w.spread_from.new.flags (w.spread_from.auto.flags ∙ w.deref_mut.ensures.len) in
          let all : length w.spread_from.new.flags ≡ length links = w.spread_from.auto.flags ∙ (ap length w.deref_mut.ensures.value ∙ c.loop-structure.invariant.0) in
          let closed : IsClosed turned w.spread_from.new.flags = subst (λ xs. IsClosed xs w.spread_from.new.flags) w.deref.ensures.value w.in_ok-spread_from.ensures.closed in
          let new : (j : ℕ) → IsOn w.spread_from.new.flags j ↔ (IsOn c.loop-structure.flags.items j ⊎ Reaches turned i j) =
          subst (λ ys. (j : ℕ) → IsOn w.spread_from.new.flags j ↔ (IsOn ys j ⊎ Reaches turned i j)) w.deref_mut.ensures.value
          (subst (λ xs. (j : ℕ) → IsOn w.spread_from.new.flags j ↔ (IsOn w.deref_mut.result.now j ⊎ Reaches xs i j)) w.deref.ensures.value w.in_ok-spread_from.ensures.each) in
          subst (λ xs. (length xs ≡ length links) × AreLive turned drawn (i + 1) xs) (sym whole)
          (all, live_more turned drawn c.loop-structure.flags.items w.spread_from.new.flags i c.loop-structure.invariant.1 here closed new)
      | else-drawn-structure w ↦
          let not_here : IsOn drawn i → ⊥ = λ on. let off : slice_get drawn i ≡ Some false = slice_get-get_or drawn i false (let n = c.requires.all in let t = c.loop-structure-test.true in omega arith) ∙ ap (λ b. Some b) w.if-drawn-structure.false in let e : Some false ≡ Some true = sym off ∙ on in absurd (cc) in
          subst (λ (v : Vec Bool). (length v.items ≡ length links) × AreLive turned drawn (i + 1) v.items) (sym w.flags-is)
          (c.loop-structure.invariant.0, live_skip turned drawn c.loop-structure.flags.items i c.loop-structure.invariant.1 not_here)
    ]

pub returns : goal.returns
returns c =
    let links = c.args.links.now in
    let all : c.loop-structure.structure ≡ length links = let t = c.loop-structure-test.false in let u = c.loop-structure.auto.structure-end in omega arith in
    live_all links c.in_ok-turned.turned.items c.args.drawn.now c.loop-structure.flags.items c.in_ok-turned.ensures.each c.requires.all c.loop-structure.invariant.0
    (subst (λ n. AreLive c.in_ok-turned.turned.items c.args.drawn.now n c.loop-structure.flags.items) all c.loop-structure.invariant.1)
