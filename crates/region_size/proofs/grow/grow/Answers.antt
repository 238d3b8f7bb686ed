use Rattle.std.proofs.Common.{◌≡◌, ◌↔◌, true, ℤ, pos, w64, rules}
use Rattle.std.proofs.lemmas.Int.{to_z-of_z}
use mir.Val.{SFits}
use Rattle.region_form.specs.Flips.{squares}
use Rattle.region_size.specs.Working.Widths.{HasNearBy}
use Rattle.region_size.proofs.Growing.{two_steps}
use Rattle.region_size.proofs.grow.grow.Goals as goal

pub returns : goal.returns
returns c =
    let fits : SFits w64 c.args.d = search rules in
    let first : (x y : ℤ) → (squares c.in_ok-wider.wider x y ≡ true) ↔ HasNearBy (squares c.args.region.now) c.args.d (pos 0) x y = λ x y. simp to_z-of_z at (c.in_ok-wider.ensures x y) in
    let second : (x y : ℤ) → (squares c.in_ok-grown.grown x y ≡ true) ↔ HasNearBy (squares c.in_ok-wider.wider) (pos 0) c.args.d x y = λ x y. simp to_z-of_z at (c.in_ok-grown.ensures x y) in
    two_steps (squares c.args.region.now) (squares c.in_ok-wider.wider) (squares c.in_ok-grown.grown) c.args.d c.requires.low first second
