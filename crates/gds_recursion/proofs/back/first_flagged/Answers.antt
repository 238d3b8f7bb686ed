use Rattle.std.proofs.Common.{◌≡◌, false, None, Some, ap, below_more, ◌∙◌, arith}
use Rattle.std.proofs.lemmas.Option.{slice_get-get_or, slice_get_within}
use Rattle.std.specs.Prelude.{slice_get}
use Rattle.gds_reach.specs.References.{IsOn}
use Rattle.gds_recursion.specs.Working.Circles.{NamesFlagged}
use Rattle.gds_recursion.proofs.Backward.{flagged_elsewhere, unnamed}
use Rattle.gds_recursion.proofs.back.first_flagged.Goals as goal
use Rattle.gds_recursion.proofs.back.first_flagged.Goals.{in-Some+else-flags-structure, in_default}

pub bounds-flags-structure : goal.bounds-flags-structure
bounds-flags-structure c =
    let here : slice_get c.args.named.now c.loop-place.place ≡ Some (Some c.in-Some.structure) = slice_get-get_or c.args.named.now c.loop-place.place None c.loop-place-test.true ∙ ap (λ o. Some o) c.in-Some.is in
    c.requires c.in-Some.structure (c.loop-place.place, here)

pub returns-then-flags-structure : goal.returns-then-flags-structure
returns-then-flags-structure c =
    let k = c.in-Some.structure in
    let here : slice_get c.args.named.now c.loop-place.place ≡ Some (Some k) = slice_get-get_or c.args.named.now c.loop-place.place None c.loop-place-test.true ∙ ap (λ o. Some o) c.in-Some.is in
    let on : IsOn c.args.flags.now k = slice_get-get_or c.args.flags.now k false (c.requires k (c.loop-place.place, here)) ∙ ap (λ b. Some b) c.if-flags-structure.true in
    ((k, here, on), c.loop-place.invariant)

pub loop-place-preserved : goal.loop-place-preserved
loop-place-preserved c =
    let n = c.loop-place.place in
    let named = c.args.named.now in
    let flags = c.args.flags.now in
    elim c.match-name.branch [
      | in-Some+else-flags-structure w ↦
          let k = w.in-Some.structure in
          let here : slice_get named n ≡ Some (Some k) = slice_get-get_or named n None c.loop-place-test.true ∙ ap (λ o. Some o) w.in-Some.is in
          let off : slice_get flags k ≡ Some false = slice_get-get_or flags k false (c.requires k (n, here)) ∙ ap (λ b. Some b) w.if-flags-structure.false in
          below_more (λ place. NamesFlagged named flags place → ⊥) n c.loop-place.invariant (flagged_elsewhere named flags n k here off)
      | in_default w ↦
          let none : slice_get named n ≡ Some None = slice_get-get_or named n None c.loop-place-test.true ∙ ap (λ o. Some o) w.in_default.is in
          below_more (λ place. NamesFlagged named flags place → ⊥) n c.loop-place.invariant (unnamed named flags n none)
    ]

pub returns : goal.returns
returns c = λ place (k, e, on).
    let l = slice_get_within c.args.named.now place (Some k) e in
    let t = c.loop-place-test.false in
    c.loop-place.invariant place (omega arith) (k, e, on)
