use Rattle.std.proofs.Common.{◌≡◌, ◌∙◌, arith, w64, pos, neg_ℤ, ◌-ℤ◌, to_z, of_z}
use Rattle.std.proofs.lemmas.Int.{ints}
use Rattle.drc_geom.proofs.Turning.{turned_none, turned_once, turned_twice, turned_thrice}
use Rattle.drc_geom.proofs.turn.turned.Goals as goal

pub returns-in-0-clause-value : goal.returns-in-0-clause-value
returns-in-0-clause-value c = turned_none c.args.quarters c.args.p (omega arith)

pub returns-in-1-clause-value : goal.returns-in-1-clause-value
returns-in-1-clause-value c =
    let x : to_z w64 (of_z w64 (pos 0 -ℤ to_z w64 (of_z w64 c.args.p.y))) ≡ neg_ℤ c.args.p.y = omega (arith, ints) in
    let y : to_z w64 (of_z w64 c.args.p.x) ≡ c.args.p.x = omega (arith, ints) in
    (λ i. record { x = x i; y = y i }) ∙ turned_once c.args.quarters c.args.p (omega arith)

pub returns-in-2-clause-value : goal.returns-in-2-clause-value
returns-in-2-clause-value c =
    let x : to_z w64 (of_z w64 (pos 0 -ℤ to_z w64 (of_z w64 c.args.p.x))) ≡ neg_ℤ c.args.p.x = omega (arith, ints) in
    let y : to_z w64 (of_z w64 (pos 0 -ℤ to_z w64 (of_z w64 c.args.p.y))) ≡ neg_ℤ c.args.p.y = omega (arith, ints) in
    (λ i. record { x = x i; y = y i }) ∙ turned_twice c.args.quarters c.args.p (omega arith)

pub returns-in_default-clause-value : goal.returns-in_default-clause-value
returns-in_default-clause-value c =
    let x : to_z w64 (of_z w64 c.args.p.y) ≡ c.args.p.y = omega (arith, ints) in
    let y : to_z w64 (of_z w64 (pos 0 -ℤ to_z w64 (of_z w64 c.args.p.x))) ≡ neg_ℤ c.args.p.x = omega (arith, ints) in
    (λ i. record { x = x i; y = y i }) ∙ turned_thrice c.args.quarters c.args.p (omega arith)
