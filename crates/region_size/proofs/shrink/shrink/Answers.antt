use Rattle.std.proofs.Common.{◌≡◌, ◌↔◌, true, w64, rules, ℤ, pos, ◌^◌, ◌≤ℤ◌, sym, ◌∙◌, arith}
use Rattle.std.proofs.lemmas.Int.{ints, to_z-of_z}
use mir.Val.{SFits}
use Rattle.region_form.specs.Flips.{squares}
use Rattle.region_size.specs.Sizes.{HasNear, IsNear}
use Rattle.region_size.specs.Working.Widths.{frame}
use Rattle.region_size.proofs.Shrinking.{frame_has, frame_within, lacking, near_itself, outside_within, shrunk_is}
use Rattle.region_size.proofs.shrink.shrink.Goals as goal

pub grow-requires-clause-within : goal.grow-requires-clause-within
grow-requires-clause-within c =
    let low : pos 0 ≤ℤ c.args.d = c.requires.low in
    let inside : (x y : ℤ) → squares c.args.region.now x y ≡ true → squares c.in_ok-all.all x y ≡ true = λ x y s.
    c.in_ok-all.ensures x y ∙ frame_has frame (pos (2 ^ 40)) (pos 0) x y x y (omega (arith, ints)) (omega (arith, ints)) (omega (arith, ints)) (omega (arith, ints)) (c.requires.within x y s) (near_itself (pos 0) x y (omega (arith, ints))) in
    outside_within (pos (2 ^ 41)) (squares c.in_ok-all.all) (squares c.args.region.now) (squares c.in_ok-outside.outside)
    (λ x y e. frame_within frame (pos (2 ^ 41)) x y (omega (arith, ints)) (omega (arith, ints)) (omega (arith, ints)) (omega (arith, ints)) (sym (c.in_ok-all.ensures x y) ∙ e))
    (lacking (squares c.in_ok-all.all) (squares c.args.region.now) (squares c.in_ok-outside.outside) inside c.in_ok-outside.ensures)

pub returns : goal.returns
returns c =
    let low : pos 0 ≤ℤ c.args.d = c.requires.low in
    let high : c.args.d ≤ℤ pos (2 ^ 24) = c.requires.high in
    let fits : SFits w64 c.args.d = search rules in
    let is_near : (x y : ℤ) → (squares c.in_ok-near.near x y ≡ true) ↔ HasNear (squares c.in_ok-outside.outside) c.args.d x y = λ x y. simp to_z-of_z at (c.in_ok-near.ensures x y) in
    let looked : (x y column row : ℤ) → squares c.args.region.now x y ≡ true → IsNear c.args.d x y column row → squares c.in_ok-all.all column row ≡ true = λ x y column row s i.
    c.in_ok-all.ensures column row ∙ frame_has frame (pos (2 ^ 40)) c.args.d x y column row (omega (arith, ints)) (omega (arith, ints)) (omega (arith, ints)) (omega (arith, ints)) (c.requires.within x y s) i in
    let outside = lacking (squares c.in_ok-all.all) (squares c.args.region.now) (squares c.in_ok-outside.outside) (λ x y s. looked x y x y s (near_itself c.args.d x y low)) c.in_ok-outside.ensures in
    shrunk_is (squares c.args.region.now) (squares c.in_ok-all.all) (squares c.in_ok-outside.outside) (squares c.in_ok-near.near) (squares c.in_ok-shrunk.shrunk) c.args.d low looked outside is_near c.in_ok-shrunk.ensures
