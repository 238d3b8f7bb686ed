use Rattle.std.proofs.Common.{pos, get_or, ◌<ℤ◌, sym, ap, ◌∙◌, arith, rules}
use Rattle.std.proofs.lemmas.Int.{ints, to_z-of_z}
use Rattle.list_facts.proofs.EitherOr.{one_right_false}
use Rattle.list_facts.specs.EitherOr.{exactly_one}
use mir.Syntax.{w64}
use mir.Val.{SFits}
use Rattle.region_form.specs.declared.flip.Flip.{Flip}
use Rattle.region_form.proofs.FlipLines.{none_from}
use Rattle.region_form.proofs.region.has_square.Goals as goal

pub returns-then-y-flip : goal.returns-then-y-flip
returns-then-y-flip c =
    let x = c.args.x in
    let y = c.args.y in
    let fs = c.args.flips.now in
    let i = c.loop-flip.flip-index in
    let d : Flip = record { y = pos 0; x0 = pos 0; x1 = pos 0 } in
    let rx = c.ranges.x in
    let ry = c.ranges.y in
    let f : SFits w64 (get_or fs i d).y = search rules in
    let h : y <ℤ (get_or fs i d).y = grind (arith, ints) in
    let e = simp to_z-of_z at c.loop-flip.invariant in
    sym (one_right_false c.loop-flip.is_in) ∙ (ap (exactly_one c.loop-flip.is_in) (sym (none_from fs i d x y c.requires c.loop-flip-test.true h)) ∙ e)
