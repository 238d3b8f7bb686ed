use Rattle.std.proofs.Common.{◌≡◌, rules, arith, w64, to_z, of_z}
use Rattle.std.proofs.lemmas.Int.{ints, to_z-of_z}
use Rattle.region_form.proofs.FlipLines.{below_up}
use Rattle.region_bool.proofs.tests.bar.Goals as goal

pub rise-requires-2 : goal.rise-requires-2
rise-requires-2 c =
    let low : to_z w64 (of_z w64 c.args.y0) ≡ c.args.y0 = to_z-of_z w64 c.args.y0 (search rules) in
    let high : to_z w64 (of_z w64 c.args.y1) ≡ c.args.y1 = to_z-of_z w64 c.args.y1 (search rules) in
    below_up _ _ c.rise.new.self.flips (omega (arith, ints)) c.in_ok-rise.ensures.lines
