use Rattle.std.proofs.Common.{◌≡◌, ◌⊎◌, ◌↔◌, ◌+◌, ℕ, Bool, true, false, length, replicate, Option, Some, sym, ap, subst, ◌∙◌, arith}
use Rattle.std.proofs.lemmas.List.{with_items_is}
use Rattle.std.proofs.lemmas.Option.{slice_get-get_or}
use Rattle.std.specs.Prelude.{slice_get}
use Rattle.std.specs.Global.{Vec}
use Rattle.gds_reach.specs.References.{named_in, IsNamed, IsOn}
use Rattle.gds_reach.specs.Working.Depths.{IsReferredToBelow}
use Rattle.gds_reach.proofs.Depths.{none_referred, referred_all, referred_more, referred_skip}
use Rattle.gds_reach.proofs.Paths.{named_here}
use Rattle.gds_reach.proofs.depth.onward.Goals as goal
use Rattle.gds_reach.proofs.depth.onward.Goals.{then-flags-structure, else-flags-structure}

pub flag_all-requires : goal.flag_all-requires
flag_all-requires c = λ j named.
    let i = c.loop-structure.structure in
    let links = c.args.links.now in
    let same : c.deref.result.now ≡ named_in links i = c.deref.ensures.value ∙ (ap (λ (v : Vec (Option ℕ)). v.items) c.index-links-structure.is ∙ sym (named_here links i c.index-links-structure.result c.loop-structure-test.true)) in
    let l = c.requires.within i j (subst (λ xs. IsNamed xs j) same named) in
    let n = c.loop-structure.invariant.0 in
    let m = ap length c.deref_mut.ensures.value in
    omega arith

pub loop-structure-init : goal.loop-structure-init
loop-structure-init c =
    let none : c.in_ok-next.next.items ≡ replicate (length c.args.links.now) false = c.in_ok-next.ensures.items_if_clones_equal (λ y h. h) in
    none_referred c.args.links.now c.args.flags.now c.in_ok-next.next.items none

pub loop-structure-preserved : goal.loop-structure-preserved
loop-structure-preserved c =
    let i = c.loop-structure.structure in
    let links = c.args.links.now in
    let flags = c.args.flags.now in
    elim c.if-flags-structure.branch [
      | then-flags-structure w ↦
          let here : IsOn flags i = slice_get-get_or flags i false (let n = c.requires.all in let t = c.loop-structure-test.true in omega arith) ∙ ap (λ b. Some b) w.if-flags-structure.true in
          let same : w.deref.result.now ≡ named_in links i = w.deref.ensures.value ∙ (ap (λ (v : Vec (Option ℕ)). v.items) w.index-links-structure.is ∙ sym (named_here links i w.index-links-structure.result c.loop-structure-test.true)) in
          let new : (j : ℕ) → IsOn w.flag_all.new.flags j ↔ (IsOn c.loop-structure.next.items j ⊎ IsNamed (named_in links i) j) =
          subst (λ xs. (j : ℕ) → IsOn w.flag_all.new.flags j ↔ (IsOn xs j ⊎ IsNamed (named_in links i) j)) w.deref_mut.ensures.value
          (subst (λ ys. (j : ℕ) → IsOn w.flag_all.new.flags j ↔ (IsOn w.deref_mut.result.now j ⊎ IsNamed ys j)) same w.flag_all.ensures) in
          let all : length w.flag_all.new.flags ≡ length links = w.flag_all.auto.flags ∙ (ap length w.deref_mut.ensures.value ∙ c.loop-structure.invariant.0) in
          let whole : c.if-flags-structure.next.items ≡ w.flag_all.new.flags = ap (λ (v : Vec Bool). v.items) w.next-is ∙ with_items_is c.loop-structure.next w.flag_all.new.flags (w.flag_all.auto.flags ∙ w.deref_mut.ensures.len) in
          subst (λ xs. (length xs ≡ length links) × ((j : ℕ) → IsOn xs j ↔ IsReferredToBelow links flags (i + 1) j)) (sym whole)
          (all, referred_more links flags c.loop-structure.next.items w.flag_all.new.flags i c.loop-structure.invariant.1 here new)
      | else-flags-structure w ↦
          let not_here : IsOn flags i → ⊥ = λ on. let off : slice_get flags i ≡ Some false = slice_get-get_or flags i false (let n = c.requires.all in let t = c.loop-structure-test.true in omega arith) ∙ ap (λ b. Some b) w.if-flags-structure.false in let e : Some false ≡ Some true = sym off ∙ on in absurd (cc) in
          subst (λ (v : Vec Bool). (length v.items ≡ length links) × ((j : ℕ) → IsOn v.items j ↔ IsReferredToBelow links flags (i + 1) j)) (sym w.next-is)
          (c.loop-structure.invariant.0, referred_skip links flags c.loop-structure.next.items i c.loop-structure.invariant.1 not_here)
    ]

pub returns : goal.returns
returns c =
    let n = c.loop-structure.structure in
    referred_all c.args.links.now c.args.flags.now c.loop-structure.next.items n (let t = c.loop-structure-test.false in let u = c.loop-structure.auto.structure-end in omega arith) c.loop-structure.invariant.0 c.loop-structure.invariant.1
