use Rattle.std.proofs.Common.{◌≡◌, inl, inr, None, Some, refl, sym, ap, ◌∙◌, arith}
use Rattle.std.proofs.lemmas.Grind.{common_steps}
use Rattle.std.proofs.lemmas.Option.{slice_get-get_or, same_Some}
use Rattle.std.specs.Prelude.{slice_get}
use Rattle.gds_reach.proofs.Naming.{below_skip, below_split, named_below}
use Rattle.gds_reach.proofs.within.all_below.Goals as goal
use Rattle.gds_reach.proofs.within.all_below.Goals.{in-Some+else-structure-bound, in_default}

pub returns-then-structure-bound : goal.returns-then-structure-bound
returns-then-structure-bound c = (
  λ e. absurd (grind (arith, common_steps)),
  λ all.
      let here : slice_get c.args.named.now c.loop-name.name-index ≡ Some (Some c.in-Some.structure) = slice_get-get_or c.args.named.now c.loop-name.name-index None c.loop-name-test.true ∙ ap (λ o. Some o) c.in-Some.is in
      let l = all c.in-Some.structure (c.loop-name.name-index, here) in
      let t = c.if-structure-bound.true in
      absurd (omega arith),
)

pub loop-name-preserved : goal.loop-name-preserved
loop-name-preserved c = λ j below.
    let n = c.loop-name.name-index in
    elim c.match-name.branch [
      | in-Some+else-structure-bound w ↦
          let here : slice_get c.args.named.now n ≡ Some (Some w.in-Some.structure) = slice_get-get_or c.args.named.now n None c.loop-name-test.true ∙ ap (λ o. Some o) w.in-Some.is in
          elim (below_split c.args.named.now n j below) [
            | inl old ↦ c.loop-name.invariant j old
            | inr e ↦
                let q = same_Some j w.in-Some.structure (same_Some (Some j) (Some w.in-Some.structure) (sym e ∙ here)) in
                let t = w.if-structure-bound.false in
                omega arith
          ]
      | in_default w ↦
          let none : slice_get c.args.named.now n ≡ Some None = slice_get-get_or c.args.named.now n None c.loop-name-test.true ∙ ap (λ o. Some o) w.in_default.is in
          c.loop-name.invariant j (below_skip c.args.named.now n j none below)
    ]

pub returns : goal.returns
returns c = (
  λ e j named. c.loop-name.invariant j (named_below c.args.named.now c.loop-name.name-index j (let t = c.loop-name-test.false in omega arith) named),
  λ all. refl,
)
