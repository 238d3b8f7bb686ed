use Rattle.std.proofs.Common.{◌≡◌, ◌⊎◌, inl, inr, ◌↔◌, ℕ, ◌+◌, ◌<◌, length, None, Some, sym, ap, subst, ◌∙◌, arith}
use Rattle.std.proofs.lemmas.Option.{slice_get-get_or}
use Rattle.std.specs.Prelude.{slice_get}
use Rattle.gds_reach.specs.References.{IsNamedBelow, IsOn}
use Rattle.gds_reach.proofs.Naming.{below_named, below_none, named_below, flagged_more, flagged_skip}
use Rattle.gds_reach.proofs.depth.flag_all.Goals as goal
use Rattle.gds_reach.proofs.depth.flag_all.Goals.{in-Some, in_default}

pub bounds-flags-structure : goal.bounds-flags-structure
bounds-flags-structure c =
    let here : slice_get c.args.named.now c.loop-name.name-index ≡ Some (Some c.in-Some.structure) = slice_get-get_or c.args.named.now c.loop-name.name-index None c.loop-name-test.true ∙ ap (λ o. Some o) c.in-Some.is in
    let l = c.requires c.in-Some.structure (c.loop-name.name-index, here) in
    let n = c.loop-name.auto.flags in
    omega arith

pub loop-name-init : goal.loop-name-init
loop-name-init c = λ j. (λ on. inl on, λ either. elim either [ inl on ↦ on | inr b ↦ absurd (below_none c.args.named.now j b) ])

pub loop-name-preserved : goal.loop-name-preserved
loop-name-preserved c =
    let n = c.loop-name.name-index in
    elim c.match-name.branch [
      | in-Some w ↦
          let here : slice_get c.args.named.now n ≡ Some (Some w.in-Some.structure) = slice_get-get_or c.args.named.now n None c.loop-name-test.true ∙ ap (λ o. Some o) w.in-Some.is in
          let l : w.in-Some.structure < length c.loop-name.flags = let t = c.requires w.in-Some.structure (n, here) in let s = c.loop-name.auto.flags in omega arith in
          subst (λ flags. (j : ℕ) → IsOn flags j ↔ (IsOn c.args.flags.now j ⊎ IsNamedBelow c.args.named.now (n + 1) j)) (sym w.flags-is)
          (flagged_more c.args.named.now c.args.flags.now c.loop-name.flags n w.in-Some.structure here l c.loop-name.invariant)
      | in_default w ↦
          let none : slice_get c.args.named.now n ≡ Some None = slice_get-get_or c.args.named.now n None c.loop-name-test.true ∙ ap (λ o. Some o) w.in_default.is in
          subst (λ flags. (j : ℕ) → IsOn flags j ↔ (IsOn c.args.flags.now j ⊎ IsNamedBelow c.args.named.now (n + 1) j)) (sym w.flags-is)
          (flagged_skip c.args.named.now c.args.flags.now c.loop-name.flags n none c.loop-name.invariant)
    ]

pub returns : goal.returns
returns c = λ j.
    let n = c.loop-name.name-index in (
      λ on. elim ((c.loop-name.invariant j).0 on) [
        | inl old ↦ inl old
        | inr b ↦ inr (below_named c.args.named.now n j b)
      ],
      λ either. elim either [
        | inl old ↦ (c.loop-name.invariant j).1 (inl old)
        | inr named ↦ (c.loop-name.invariant j).1 (inr (named_below c.args.named.now n j (let t = c.loop-name-test.false in omega arith) named))
      ],
    )
