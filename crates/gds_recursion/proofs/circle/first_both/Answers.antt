use Rattle.std.proofs.Common.{◌≡◌, true, false, Some, sym, ap, below_more, ◌∙◌, arith}
use Rattle.std.proofs.lemmas.Option.{slice_get-get_or, slice_get_within}
use Rattle.std.specs.Prelude.{slice_get}
use Rattle.gds_reach.specs.References.{IsOn}
use Rattle.gds_recursion.proofs.circle.first_both.Goals as goal
use Rattle.gds_recursion.proofs.circle.first_both.Goals.{else-reached-structure-via-then-reached-structure+else-circular-structure, else-reached-structure-via-else-reached-structure}

pub returns-then-circular-structure : goal.returns-then-circular-structure
returns-then-circular-structure c =
    let i = c.loop-structure.structure in
    let l = c.loop-structure-test.true in
    let a : IsOn c.args.reached.now i = slice_get-get_or c.args.reached.now i false l ∙ ap (λ b. Some b) c.if-reached-structure.true in
    let b : IsOn c.args.circular.now i = slice_get-get_or c.args.circular.now i false (let n = c.requires.same in omega arith) ∙ ap (λ b. Some b) c.if-circular-structure.true in
    ((a, b), c.loop-structure.invariant)

pub loop-structure-preserved : goal.loop-structure-preserved
loop-structure-preserved c =
    let i = c.loop-structure.structure in
    let reached = c.args.reached.now in
    let circular = c.args.circular.now in
    elim c.else-reached-structure.branch [
      | else-reached-structure-via-then-reached-structure+else-circular-structure w ↦
          let off : slice_get circular i ≡ Some false = slice_get-get_or circular i false (let n = c.requires.same in let l = c.loop-structure-test.true in omega arith) ∙ ap (λ b. Some b) w.if-circular-structure.false in
          below_more (λ k. IsOn reached k × IsOn circular k → ⊥) i c.loop-structure.invariant (λ (a, b). let e : Some false ≡ Some true = sym off ∙ b in absurd (cc))
      | else-reached-structure-via-else-reached-structure w ↦
          let off : slice_get reached i ≡ Some false = slice_get-get_or reached i false c.loop-structure-test.true ∙ ap (λ b. Some b) w.if-reached-structure.false in
          below_more (λ k. IsOn reached k × IsOn circular k → ⊥) i c.loop-structure.invariant (λ (a, b). let e : Some false ≡ Some true = sym off ∙ a in absurd (cc))
    ]

pub returns : goal.returns
returns c = λ i (a, b).
    let l = slice_get_within c.args.reached.now i true a in
    let t = c.loop-structure-test.false in
    c.loop-structure.invariant i (omega arith) (a, b)
