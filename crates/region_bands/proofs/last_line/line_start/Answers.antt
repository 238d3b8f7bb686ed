use Rattle.std.proofs.Common.{◌≡◌, ℕ, suc, ◌-◌, ◌<◌, length, take, drop, get_or, pos, ◌<ℤ◌, ◌≤ℤ◌, subst, arith}
use Rattle.std.proofs.lemmas.Grind.{common_steps}
use Rattle.std.proofs.lemmas.Int.{ints, to_z-of_z}
use Rattle.region_form.specs.declared.flip.Flip.{Flip}
use Rattle.region_form.specs.Flips.{AreBelow}
use Rattle.region_bands.specs.Working.LastLine.{AreOn}
use Rattle.region_bands.proofs.LastLine.{on_from, below_to}
use Rattle.region_bands.proofs.last_line.line_start.Goals as goal

pub returns-then-flips-start-clause-below : goal.returns-then-flips-start-clause-below
returns-then-flips-start-clause-below c =
    let r = c.ranges.line in
    let d : Flip = record { y = pos 0; x0 = pos 0; x1 = pos 0 } in
    let fs = c.args.flips.now in
    let n : ℕ = c.loop-start.start - 1 in
    let h : n < length fs = omega arith in
    let l : (get_or fs n d).y <ℤ c.args.line = grind (arith, ints, common_steps) in
    let e : suc n ≡ c.loop-start.start = omega arith in
    subst (λ m. AreBelow c.args.line (take m fs)) e (below_to fs n d c.args.line h c.requires.sorted l)

pub loop-start-preserved : goal.loop-start-preserved
loop-start-preserved c =
    let r = c.ranges.line in
    let d : Flip = record { y = pos 0; x0 = pos 0; x1 = pos 0 } in
    let fs = c.args.flips.now in
    let n : ℕ = c.loop-start.start - 1 in
    let h : n < length fs = omega arith in
    let l : c.args.line ≤ℤ (get_or fs n d).y = grind (arith, ints, common_steps) in
    let e : c.loop-start.start ≡ suc n = omega arith in
    let o = simp to_z-of_z at c.loop-start.invariant.on in
    let p = on_from fs n d c.args.line h c.requires.last l (subst (λ m. AreOn c.args.line (drop m fs)) e o) in
    record { in_range = omega arith; on = simp to_z-of_z p }
