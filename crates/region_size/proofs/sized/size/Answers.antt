use Rattle.std.proofs.Common.{◌≡◌, ◌↔◌, true, ℤ, pos, ◌-ℤ◌, ◌≤ℤ◌, w64, rules, subst, arith}
use Rattle.std.proofs.lemmas.Int.{ints, to_z-of_z}
use mir.Val.{SFits}
use Rattle.region_form.specs.Flips.{squares}
use Rattle.region_size.specs.Sizes.{AllNear, HasNear}
use Rattle.region_size.proofs.Shrinking.{by_nothing}
use Rattle.region_size.proofs.sized.size.Goals as goal

pub returns-then-d-ge0-clause-shrunk : goal.returns-then-d-ge0-clause-shrunk
returns-then-d-ge0-clause-shrunk c =
    let fits : SFits w64 c.args.d = search rules in
    let set = squares c.args.region.now in
    λ low x y.
    let grown : (squares c.in_ok-grown.grown x y ≡ true) ↔ HasNear set c.args.d x y = simp to_z-of_z at (c.in_ok-grown.ensures x y) in
    let high : pos 0 ≤ℤ c.args.d = omega (arith, ints) in
    let same = by_nothing set c.args.d x y high low in
    (λ t. same.0 (grown.0 t), λ a. grown.1 (same.1 a))

pub returns-clause-shrunk : goal.returns-clause-shrunk
returns-clause-shrunk c =
    let fits : SFits w64 c.opposite.result = search rules in
    let fits_d : SFits w64 c.args.d = search rules in
    let is : c.opposite.result ≡ pos 0 -ℤ c.args.d = simp to_z-of_z at c.opposite.ensures in
    let set = squares c.args.region.now in
    λ low x y.
    let shrunk : (squares c.in_ok-shrunk.shrunk x y ≡ true) ↔ AllNear set c.opposite.result x y = simp to_z-of_z at (c.in_ok-shrunk.ensures x y) in
    subst (λ e. (squares c.in_ok-shrunk.shrunk x y ≡ true) ↔ AllNear set e x y) is shrunk
